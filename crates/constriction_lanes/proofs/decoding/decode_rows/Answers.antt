use Rattle.std.proofs.Common.{◌≡◌, ◌<◌, ◌≤◌, ◌∙◌, ◌+◌, ◌-◌, ◌*◌, arith, drop, get_or, length, sym}
use Rattle.std.proofs.lemmas.List.{get_or_read, length-set}
use borrow.Rule.Slice.PartMut.{same_len_mid}
use Rattle.constriction_interleaved.specs.Rows.{row}
use Rattle.constriction_stack.specs.Lanes.{lane}
use Rattle.constriction_stack.specs.Symbols.{DecodesAll}
use Rattle.constriction_lanes.proofs.EachRow.{each_more, left_more, part_long, row_within, same_here}
use Rattle.constriction_lanes.proofs.RowItems.{pairs}
use Rattle.constriction_lanes.proofs.decoding.decode_rows.Goals as goal

pub decode_row-head-requires-clause-within : goal.decode_row-head-requires-clause-within
decode_row-head-requires-clause-within g c =
    let l = c.loop-j in
    let lt : l.j < length c.args.heads.now = omega (arith, c.loop-j-test.true) in
    let long = part_long c.args.words.now (l.j * c.args.width) c.args.width (row_within l.j (length c.args.heads.now) c.args.width (length c.args.words.now) lt c.requires.words) in
    let len = same_here l.j l.lens c.args.lens.now 0 l.invariant.lens_left in
    let below = c.requires.within l.j (omega (arith, lt, c.requires.lens)) in
    omega (arith, long, len, below)

pub loop-j-preserved : goal.loop-j-preserved
loop-j-preserved g c =
    let l = c.loop-j in
    let w = g.Word.Natural.BITS in
    let s = g.State.Natural.BITS in
    let number = g.Word.Natural.number in
    let state = g.State.Natural.number in
    let width = c.args.width in
    let count = c.args.count in
    let tables = g.L.DecoderModelList.tables c.args.models.now in
    let heads = c.args.heads.now in
    let lens = c.args.lens.now in
    let words = c.args.words.now in
    let lt : l.j < length heads = omega (arith, c.loop-j-test.true) in
    let e : l.j * width + width - l.j * width ≡ width = omega arith in
    let inside = row_within l.j (length heads) count (length c.args.symbols.now) lt c.requires.symbols in
    let within : l.j * count + count ≤ length l.symbols = omega (arith, inside, l.invariant.symbols_count) in
    let call = c.decode_row-head in
    let long = part_long l.symbols (l.j * count) count within in
    let here : l.j < length l.heads = omega (arith, lt, l.invariant.heads_count) in
    let decoded = rw (e, l.invariant.tables) at call.ensures.decoded in
    let left = same_here l.j l.lens lens 0 l.invariant.lens_left in
    record {
      done = each_more count l.heads l.lens l.symbols l.j call.result.0 call.result.1 call.new.symbols _
          (λ j d head len xs. DecodesAll w s (pairs g.row.PRECISION xs (drop (j * count) tables))
          (lane number state (get_or heads j d) (row width j words) (get_or lens j 0)) (lane number state head (row width j words) len) × (len ≤ get_or lens j 0))
          here (omega (arith, lt, l.invariant.lens_count, c.requires.lens)) (omega (arith, within)) (omega (arith, call.auto.symbols, long))
          (λ d. rw (sym (get_or_read l.heads l.j c.index-heads-j.result here c.index-heads-j.is d ∙ same_here l.j l.heads heads d l.invariant.heads_left), sym left) (decoded, call.ensures.left)) l.invariant.done;
      heads_left = left_more l.j l.heads heads call.result.0 l.invariant.heads_left;
      lens_left = left_more l.j l.lens lens call.result.1 l.invariant.lens_left;
      heads_count = length-set l.heads l.j call.result.0 ∙ l.invariant.heads_count;
      lens_count = length-set l.lens l.j call.result.1 ∙ l.invariant.lens_count;
      symbols_count = same_len_mid (l.j * count) (l.j * count + count - l.j * count) l.symbols call.new.symbols call.auto.symbols ∙ l.invariant.symbols_count;
      tables = call.ensures.tables ∙ l.invariant.tables;
    }

pub returns : goal.returns
returns g c = record {
  decoded = λ k lt d. c.loop-j.invariant.done k (omega (arith, lt, c.loop-j-test.false)) d;
}
