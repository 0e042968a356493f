use Rattle.std.proofs.Common.{◌≡◌, drop, length}
use Rattle.constriction_lanes.specs.LaneCalls.{DecodesRows}
use Rattle.constriction_lanes.proofs.decoding.decode_rows.Given as goal

abbrev pub invariant-loop-j : goal.invariant-loop-j
invariant-loop-j g l = record {
  done : DecodesRows g.Word.Natural.number g.State.Natural.number g.Word.Natural.BITS g.State.Natural.BITS g.row.PRECISION (g.L.DecoderModelList.tables l.fn.models) l.width l.count l.words
      l.fn.heads l.fn.lens l.heads l.lens l.symbols l.j;
  heads_left : drop l.j l.heads ≡ drop l.j l.fn.heads;
  lens_left : drop l.j l.lens ≡ drop l.j l.fn.lens;
  heads_count : length l.heads ≡ length l.fn.heads;
  lens_count : length l.lens ≡ length l.fn.lens;
  symbols_count : length l.symbols ≡ length l.fn.symbols;
  tables : g.L.DecoderModelList.tables l.models ≡ g.L.DecoderModelList.tables l.fn.models;
}
