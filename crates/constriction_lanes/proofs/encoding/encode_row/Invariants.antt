use Rattle.std.proofs.Common.{◌≡◌, ◌+◌, ◌≤◌, [], drop, length, take}
use Rattle.std.specs.Prelude.{reverse}
use Rattle.constriction_base.specs.Models.{AreModels}
use Rattle.constriction_stack.specs.Ans.{IsNormalized}
use Rattle.constriction_stack.specs.Lanes.{lane}
use Rattle.constriction_stack.specs.Symbols.{EncodesAll}
use Rattle.constriction_lanes.proofs.encoding.encode_row.Given as goal

abbrev pub invariant-loop-rest : goal.invariant-loop-rest
invariant-loop-rest g l =
    let w = g.Word.Natural.BITS in
    let s = g.State.Natural.BITS in
    let items = take (length l.fn.row) (drop l.first (g.L.ItemList.list_items l.fn.list)) in
    record {
      same : g.L.ItemList.list_items l.list ≡ g.L.ItemList.list_items l.fn.list;
      within : l.rest ≤ length l.fn.row;
      room : l.len + l.rest ≤ length l.fn.row;
      long : length l.row ≡ length l.fn.row;
      valid : IsNormalized w s (lane g.Word.Natural.number g.State.Natural.number l.top l.row l.len);
      models : AreModels w (drop l.rest items);
      coded : EncodesAll w s (reverse (drop l.rest items)) (record { head = g.State.Natural.number l.fn.head; words = [] }) (lane g.Word.Natural.number g.State.Natural.number l.top l.row l.len);
    }

abbrev pub decreases-loop-rest : goal.decreases-loop-rest
decreases-loop-rest g l = l.rest
