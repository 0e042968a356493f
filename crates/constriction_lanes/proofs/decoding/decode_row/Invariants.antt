use Rattle.std.proofs.Common.{◌≡◌, length, take, drop}
use Rattle.constriction_base.specs.Models.{pairs_of}
use Rattle.constriction_stack.specs.Symbols.{DecodesAll}
use Rattle.constriction_lanes.proofs.decoding.decode_row.Given as goal

abbrev pub invariant-loop-place : goal.invariant-loop-place
invariant-loop-place g l = record {
  decoded : DecodesAll g.Word.Natural.BITS g.State.Natural.BITS (pairs_of g.row.PRECISION (λ table. table) (take l.place l.symbols) (drop l.first (g.L.DecoderModelList.tables l.fn.models)))
      l.initial.coder.state l.coder.state;
  buffer : l.coder.backend.buf.now ≡ l.initial.coder.backend.buf.now;
  count : length l.symbols ≡ length l.fn.symbols;
  tables : g.L.DecoderModelList.tables l.models ≡ g.L.DecoderModelList.tables l.fn.models;
}
