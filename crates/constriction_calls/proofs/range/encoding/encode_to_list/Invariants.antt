use Rattle.std.proofs.Common.{◌≡◌, ◌+◌, ◌≤◌, length, take}
use Rattle.constriction_queue.specs.Encoder.{left_to_encode, run_by}
use Rattle.constriction_queue.specs.Symbols.{NarrowsAll}
use Rattle.constriction_calls.proofs.range.encoding.encode_to_list.Given as goal

abbrev pub invariant-loop-i : goal.invariant-loop-i
invariant-loop-i g l =
    let w = g.Word.Natural.BITS in
    let s = g.State.Natural.BITS in
    let all = g.L.ItemList.list_items l.fn.list in
    record {
      items : g.L.ItemList.list_items l.list ≡ all;
      left : length all ≤ l.i + left_to_encode l.encoder;
      narrowed : NarrowsAll w s (take l.i all) (run_by w s l.fn.encoder) (run_by w s l.encoder);
    }
