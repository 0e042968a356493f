use Rattle.std.proofs.Common.{◌<◌, ◌≤◌, ◌∙◌, ◌+◌, ◌-◌, ◌*◌, arith, get_or, length, sym}
use Rattle.std.proofs.lemmas.List.{get_or_read, length-set}
use borrow.Rule.Slice.PartMut.{same_len_mid}
use Rattle.constriction_interleaved.specs.Rows.{row}
use Rattle.constriction_lanes.specs.LaneCalls.{CodesRow}
use Rattle.constriction_lanes.proofs.EachRow.{each_more, left_more, part_long, row_within, same_here}
use Rattle.constriction_lanes.proofs.encoding.encode_rows.Goals as goal

pub encode_row-requires-clause-items : goal.encode_row-requires-clause-items
encode_row-requires-clause-items g c =
    let l = c.loop-j in
    let count = c.args.count in
    let all = g.L.ItemList.list_items c.args.list.now in
    let lt : l.j < length c.args.heads.now = omega (arith, c.loop-j-test.true) in
    let inside = row_within l.j (length c.args.heads.now) count (length all) lt c.requires.items in
    let here = row_within l.j (length c.args.heads.now) count (length c.args.words.now) lt c.requires.words in
    let long = part_long l.words (l.j * count) count (omega (arith, here, l.invariant.words_count)) in
    rw l.invariant.same (omega (arith, inside, long))

pub encode_row-requires-clause-fits : goal.encode_row-requires-clause-fits
encode_row-requires-clause-fits g c =
    let l = c.loop-j in
    let count = c.args.count in
    let lt : l.j < length c.args.heads.now = omega (arith, c.loop-j-test.true) in
    let here = row_within l.j (length c.args.heads.now) count (length c.args.words.now) lt c.requires.words in
    let long = part_long l.words (l.j * count) count (omega (arith, here, l.invariant.words_count)) in
    omega (arith, here, long)

pub loop-j-preserved : goal.loop-j-preserved
loop-j-preserved g c =
    let l = c.loop-j in
    let count = c.args.count in
    let all = g.L.ItemList.list_items c.args.list.now in
    let heads = c.args.heads.now in
    let lt : l.j < length heads = omega (arith, c.loop-j-test.true) in
    let inside = row_within l.j (length heads) count (length c.args.words.now) lt c.requires.words in
    let within : l.j * count + count ≤ length l.words = omega (arith, inside, l.invariant.words_count) in
    let call = c.encode_row in
    let long = part_long l.words (l.j * count) count within in
    let here : l.j < length l.heads = omega (arith, lt, l.invariant.heads_count) in
    let coded = rw (long, l.invariant.same) at c.in-Some.ensures.coded in
    record {
      done = each_more count l.heads l.lens l.words l.j c.in-Some.made.0 c.in-Some.made.1 call.new.row _
          (λ j d head len new. CodesRow g.Word.Natural.number g.State.Natural.number g.Word.Natural.BITS g.State.Natural.BITS (row count j all) (get_or heads j d) head new len)
          here (omega (arith, lt, l.invariant.lens_count, c.requires.lens)) (omega (arith, within)) (omega (arith, call.auto.row, long))
          (λ d. rw (sym (get_or_read l.heads l.j c.index-heads-j.result here c.index-heads-j.is d ∙ same_here l.j l.heads heads d l.invariant.heads_left)) coded) l.invariant.done;
      heads_left = left_more l.j l.heads heads c.in-Some.made.0 l.invariant.heads_left;
      heads_count = length-set l.heads l.j c.in-Some.made.0 ∙ l.invariant.heads_count;
      words_count = same_len_mid (l.j * count) (l.j * count + count - l.j * count) l.words call.new.row call.auto.row ∙ l.invariant.words_count;
      lens_count = length-set l.lens l.j c.in-Some.made.1 ∙ l.invariant.lens_count;
      same = call.ensures.items ∙ l.invariant.same;
    }

pub returns : goal.returns
returns g c = λ k lt d. c.loop-j.invariant.done k (omega (arith, lt, c.loop-j-test.false)) d
