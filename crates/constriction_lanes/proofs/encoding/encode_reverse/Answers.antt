use Rattle.std.proofs.Common.{◌≡◌, length}
use Rattle.constriction_inputs.specs.Coded.{items}
use Rattle.constriction_inputs.proofs.Asking.{fit_ok}
use Rattle.constriction_lanes.proofs.Encoded.{few_written, lanes_put}
use Rattle.constriction_lanes.proofs.encoding.encode_reverse.Goals as goal

pub put-requires-clause-few : goal.put-requires-clause-few
put-requires-clause-few g c =
    let made = c.in-Some-coded in
    rw c.deref-3.ensures.value (few_written g.Word.Natural.number g.State.Natural.number g.Word.Natural.BITS g.State.Natural.BITS (g.I.List.ItemList.list_items c.in-Some-list.list) c.in-Some.count c.args.heads.now
    made.new_heads.items made.added.items made.counts.items made.ensures.lengths.2 made.ensures.lengths.1 made.ensures.coded)

pub returns : goal.returns
returns g c =
    let P = g.row.PRECISION in
    let coded = g.I.Items.coded c.args.items.now in
    let total = g.I.Items.item_count c.args.items.now in
    let made = c.in-Some-coded in
    let found = rw c.count.ensures at c.in-Some.ensures.lanes in
    let long : length (items P coded) ≡ total = rw c.in-Some-list.ensures.items at c.in-Some-list.ensures.count in
    let codes = rw (c.in-Some-list.ensures.items, found.2) at made.ensures.coded in
    let heads = rw c.deref.ensures.value at c.put.ensures.heads in
    let rows = rw (c.deref-2.ensures.value, c.deref-3.ensures.value, found.1, found.2) at c.put.ensures.rows in
    let short = rw (c.deref-3.ensures.value, found.1) at c.put.ensures.short in
    record {
      call = lanes_put g.Word.Natural.number g.State.Natural.number g.Word.Natural.BITS g.State.Natural.BITS P total coded c.args.heads.now c.args.words.now c.args.lens.now c.requires.sizes found.0
          (fit_ok P coded c.in_ok-check.ensures) long made.new_heads.items made.added.items made.counts.items codes c.put.new.heads c.put.new.words c.put.new.lens c.put.result
          made.ensures.lengths.0 heads rows c.put.ensures.lengths short c.put.ensures.kept;
    }
