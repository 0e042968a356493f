use Rattle.std.proofs.Common.{◌≡◌, drop, length}
use Rattle.constriction_lanes.specs.LaneCalls.{CodesRows}
use Rattle.constriction_lanes.proofs.encoding.encode_rows.Given as goal

abbrev pub invariant-loop-j : goal.invariant-loop-j
invariant-loop-j g l = record {
  done : CodesRows g.Word.Natural.number g.State.Natural.number g.Word.Natural.BITS g.State.Natural.BITS (g.L.ItemList.list_items l.fn.list) l.count l.fn.heads l.heads l.words l.lens l.j;
  heads_left : drop l.j l.heads ≡ drop l.j l.fn.heads;
  heads_count : length l.heads ≡ length l.fn.heads;
  words_count : length l.words ≡ length l.fn.words;
  lens_count : length l.lens ≡ length l.fn.lens;
  same : g.L.ItemList.list_items l.list ≡ g.L.ItemList.list_items l.fn.list;
}
