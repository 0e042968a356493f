use Rattle.std.proofs.Common.{◌≡◌, ℕ, List, length, take}
use Rattle.constriction_base.specs.Models.{pairs_of}
use Rattle.constriction_stack.specs.Symbols.{DecodesAll}
use Rattle.constriction_calls.proofs.ans.decoding.decode_by.Given as goal

abbrev pub invariant-loop-place : goal.invariant-loop-place
invariant-loop-place g l = record {
  decoded : (ns : List ℕ) × (length ns ≡ l.place) × (g.S.Symbol.numbers (take l.place l.symbols) ≡ g.S.Symbol.kept ns)
      × DecodesAll g.Word.Natural.BITS g.State.Natural.BITS (pairs_of g.row.PRECISION (λ table. table) ns (g.L.DecoderModelList.tables l.fn.models)) l.initial.coder.state l.coder.state;
  buffer : l.coder.backend.buf.now ≡ l.initial.coder.backend.buf.now;
  count : length l.symbols ≡ length l.fn.symbols;
  tables : g.L.DecoderModelList.tables l.models ≡ g.L.DecoderModelList.tables l.fn.models;
}
