use Rattle.std.proofs.Common.{◌≡◌, length, take}
use Rattle.constriction_base.specs.Models.{items_of}
use Rattle.constriction_stack.specs.Symbols.{DecodesAll}
use Rattle.constriction_interleaved.proofs.decoding.decode_one.Given as goal

abbrev pub invariant-loop-place : goal.invariant-loop-place
invariant-loop-place g l = record {
  decoded : DecodesAll g.Word.Natural.BITS g.State.Natural.BITS (items_of (record { precision = g.row.PRECISION; table = g.M.EntropyModel.table l.model }) (take l.place l.symbols))
      l.initial.coder.state l.coder.state;
  buffer : l.coder.backend.buf.now ≡ l.initial.coder.backend.buf.now;
  count : length l.symbols ≡ length l.fn.symbols;
}
