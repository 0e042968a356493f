use Rattle.std.proofs.Common.{◌≡◌, ◌<◌, ◌≤◌, ◌∙◌, ◌+◌, ◌-◌, ◌*◌, ℕ, suc, List, arith, drop, take, length, ap, sym, mul-le-mul_right}
use Rattle.std.proofs.Common.{add-mul}
use Rattle.std.proofs.lemmas.List.{drop-drop, length-drop, length-set, length-take-le}
use Rattle.std.proofs.lemmas.Slice.{drop-put_mid}
use borrow.Rule.Slice.PartMut.{put_mid, same_len_mid}
use Rattle.constriction_base.specs.Models.{Model}
use Rattle.constriction_interleaved.proofs.LaneFilling.{lane_more, left_more, same_here}
use Rattle.constriction_interleaved.proofs.LaneGroups.{lanes_more}
use Rattle.constriction_interleaved.proofs.decoding.decode_lanes.Goals as goal

-- ---- groups of three
-- the rows of a group lie within the matrix
group_within : (first i t n width all : ℕ) → i < t → first + t * 3 ≤ n → all ≡ n * width → (first + i * 3) * width + 3 * width ≤ all
group_within first i t n width all lt le is =
    let upto : first + i * 3 + 3 ≤ n = omega arith in
    let next : (first + i * 3 + 3) * width ≤ n * width = mul-le-mul_right width upto in
    omega (arith, next, add-mul (first + i * 3) 3 width)

-- the groups lie behind the first coders
groups_within : (first t n m : ℕ) → first ≤ n → m ≡ n → t * 3 ≤ m - first → first + t * 3 ≤ n
groups_within first t n m few same le = omega arith

-- as many items as a part has
part_long : {A : Type 0} (xs : List A) (a k : ℕ) → a + k ≤ length xs → length (take (a + k - a) (drop a xs)) ≡ k
part_long xs a k within =
    let e : a + k - a ≡ k = omega arith in
    rw e (length-take-le k (drop a xs) (omega (arith, length-drop a xs)))

-- lists that agree from a place on agree behind a part that is put there
left_behind : {A : Type 0} (a k : ℕ) (xs ys new : List A) → a + k ≤ length xs → length new ≡ k → drop a xs ≡ drop a ys → drop (a + k) (put_mid a (a + k - a) xs new) ≡ drop (a + k) ys
left_behind {A} a k xs ys new within long e =
    drop-put_mid a (a + k - a) xs new (a + k) (omega arith) (omega arith) (omega arith)
    ∙ (sym (drop-drop k a xs) ∙ (ap (λ (zs : List A). drop k zs) e ∙ drop-drop k a ys))

pub loop-group-init : goal.loop-group-init
loop-group-init g c =
    let call = c.decode_first_four-first in
    let e : call.result + 0 * 3 ≡ call.result = omega arith in
    rw e (record {
      done = call.ensures.decoded;
      heads_left = call.ensures.kept.0;
      lens_left = call.ensures.kept.1;
      heads_count = call.auto.heads;
      lens_count = call.auto.lens;
      symbols_count = call.auto.symbols;
    })

pub overflow_add-j-in-loop-group-2 : goal.overflow_add-j-in-loop-group-2
overflow_add-j-in-loop-group-2 g c =
    let inside = group_within c.decode_first_four-first.result c.loop-group.group c.group_count-threes.result (length c.args.heads.now) c.args.width (length c.args.words.now) c.loop-group-test.true (groups_within c.decode_first_four-first.result c.group_count-threes.result (length c.args.heads.now) _ c.decode_first_four-first.ensures.within c.decode_first_four-first.auto.heads c.group_count-threes.ensures.within) c.requires.words in
    omega (arith, inside)

pub slice_bounds-decode_group-end-in-loop-group : goal.slice_bounds-decode_group-end-in-loop-group
slice_bounds-decode_group-end-in-loop-group g c =
    let inside = group_within c.decode_first_four-first.result c.loop-group.group c.group_count-threes.result (length c.args.heads.now) c.args.width (length c.args.words.now) c.loop-group-test.true (groups_within c.decode_first_four-first.result c.group_count-threes.result (length c.args.heads.now) _ c.decode_first_four-first.ensures.within c.decode_first_four-first.auto.heads c.group_count-threes.ensures.within) c.requires.words in
    omega (arith, inside)

pub slice_bounds-decode_group-end-in-loop-group-3 : goal.slice_bounds-decode_group-end-in-loop-group-3
slice_bounds-decode_group-end-in-loop-group-3 g c =
    let inside = group_within c.decode_first_four-first.result c.loop-group.group c.group_count-threes.result (length c.args.heads.now) c.args.count (length c.args.symbols.now) c.loop-group-test.true (groups_within c.decode_first_four-first.result c.group_count-threes.result (length c.args.heads.now) _ c.decode_first_four-first.ensures.within c.decode_first_four-first.auto.heads c.group_count-threes.ensures.within) c.requires.symbols in
    omega (arith, inside, c.loop-group.invariant.symbols_count)

pub loop-group-preserved : goal.loop-group-preserved
loop-group-preserved g c =
    let l = c.loop-group in
    let first = c.decode_first_four-first.result in
    let j = first + l.group * 3 in
    let width = c.args.width in
    let count = c.args.count in
    let model : Model ℕ = record { precision = g.row.PRECISION; table = g.M.EntropyModel.table c.args.model.now } in
    let one : j + 3 - j ≡ 3 = omega arith in
    let row : j * width + 3 * width - j * width ≡ 3 * width = omega arith in
    let symbols = group_within first l.group c.group_count-threes.result (length c.args.heads.now) count (length c.args.symbols.now) c.loop-group-test.true (groups_within c.decode_first_four-first.result c.group_count-threes.result (length c.args.heads.now) _ c.decode_first_four-first.ensures.within c.decode_first_four-first.auto.heads c.group_count-threes.ensures.within) c.requires.symbols in
    let upto : j + 3 ≤ length c.args.heads.now = omega (arith, c.loop-group-test.true, groups_within c.decode_first_four-first.result c.group_count-threes.result (length c.args.heads.now) _ c.decode_first_four-first.ensures.within c.decode_first_four-first.auto.heads c.group_count-threes.ensures.within) in
    let in_heads : j + 3 ≤ length l.heads = omega (arith, upto, l.invariant.heads_count) in
    let in_lens : j + 3 ≤ length l.lens = omega (arith, upto, l.invariant.lens_count, c.requires.lens) in
    let in_symbols : j * count + 3 * count ≤ length l.symbols = omega (arith, symbols, l.invariant.symbols_count) in
    let call = c.decode_group in
    let heads : length call.new.heads ≡ 3 = omega (arith, call.auto.heads, part_long l.heads j 3 in_heads) in
    let lens : length call.new.lens ≡ 3 = omega (arith, call.auto.lens, part_long l.lens j 3 in_lens) in
    let decoded : length call.new.symbols ≡ 3 * count = omega (arith, call.auto.symbols, part_long l.symbols (j * count) (3 * count) in_symbols) in
    let next : first + (l.group + 1) * 3 ≡ j + 3 = omega arith in
    rw next (record {
      done = lanes_more g.Word.Natural.number g.State.Natural.number g.Word.Natural.BITS g.State.Natural.BITS model width count c.args.words.now c.args.heads.now c.args.lens.now
          l.heads l.lens l.symbols j 3 call.new.heads _ call.new.lens _ call.new.symbols _ l.invariant.heads_left l.invariant.lens_left
          (omega arith) (omega arith) (omega arith) heads lens decoded (rw (row, one) at call.ensures.decoded) l.invariant.done;
      heads_left = left_behind j 3 l.heads c.args.heads.now call.new.heads in_heads heads l.invariant.heads_left;
      lens_left = left_behind j 3 l.lens c.args.lens.now call.new.lens in_lens lens l.invariant.lens_left;
      heads_count = same_len_mid j (j + 3 - j) l.heads call.new.heads call.auto.heads ∙ l.invariant.heads_count;
      lens_count = same_len_mid j (j + 3 - j) l.lens call.new.lens call.auto.lens ∙ l.invariant.lens_count;
      symbols_count = same_len_mid (j * count) (j * count + 3 * count - j * count) l.symbols call.new.symbols call.auto.symbols ∙ l.invariant.symbols_count;
    })

-- ---- the others, one by one
row_within : (j n width all : ℕ) → j < n → all ≡ n * width → j * width + width ≤ all
row_within j n width all lt is =
    let next : suc j * width ≤ n * width = mul-le-mul_right width lt in
    omega (arith, next)

pub decode_one-head-requires-clause-within : goal.decode_one-head-requires-clause-within
decode_one-head-requires-clause-within g c =
    let l = c.loop-j in
    let lt : l.j < length c.args.heads.now = omega (arith, c.loop-j-test.true, c.loop-group.invariant.heads_count, l.invariant.heads_count) in
    let long = part_long c.args.words.now (l.j * c.args.width) c.args.width (row_within l.j (length c.args.heads.now) c.args.width (length c.args.words.now) lt c.requires.words) in
    let len = same_here l.j l.lens c.args.lens.now 0 l.invariant.lens_left in
    let below = c.requires.within l.j (omega (arith, lt, c.requires.lens)) in
    omega (arith, long, len, below)

pub loop-j-preserved : goal.loop-j-preserved
loop-j-preserved g c =
    let l = c.loop-j in
    let model : Model ℕ = record { precision = g.row.PRECISION; table = g.M.EntropyModel.table c.args.model.now } in
    let lt : l.j < length c.args.heads.now = omega (arith, c.loop-j-test.true, c.loop-group.invariant.heads_count, l.invariant.heads_count) in
    let e : l.j * c.args.width + c.args.width - l.j * c.args.width ≡ c.args.width = omega arith in
    let inside = row_within l.j (length c.args.heads.now) c.args.count (length c.args.symbols.now) lt c.requires.symbols in
    let within : l.j * c.args.count + c.args.count ≤ length l.symbols = omega (arith, inside, l.invariant.symbols_count) in
    let call = c.decode_one-head in
    let long = part_long l.symbols (l.j * c.args.count) c.args.count within in
    record {
      done = lane_more g.Word.Natural.number g.State.Natural.number g.Word.Natural.BITS g.State.Natural.BITS model c.args.width c.args.count c.args.words.now c.args.heads.now c.args.lens.now
          l.heads l.lens l.symbols l.j call.result.0 call.result.1 c.index-heads-j.result call.new.symbols _ l.invariant.heads_left l.invariant.lens_left
          (omega (arith, lt, l.invariant.heads_count)) (omega (arith, lt, l.invariant.lens_count, c.requires.lens)) (omega (arith, within)) (omega (arith, call.auto.symbols, long)) c.index-heads-j.is
          (rw e at call.ensures.decoded, call.ensures.rest) l.invariant.done;
      heads_left = left_more l.j l.heads c.args.heads.now call.result.0 l.invariant.heads_left;
      lens_left = left_more l.j l.lens c.args.lens.now call.result.1 l.invariant.lens_left;
      heads_count = length-set l.heads l.j call.result.0 ∙ l.invariant.heads_count;
      lens_count = length-set l.lens l.j call.result.1 ∙ l.invariant.lens_count;
      symbols_count = same_len_mid (l.j * c.args.count) (l.j * c.args.count + c.args.count - l.j * c.args.count) l.symbols call.new.symbols call.auto.symbols ∙ l.invariant.symbols_count;
    }

-- ---- between the two, and at the end
pub loop-j-init : goal.loop-j-init
loop-j-init g c =
    let l = c.loop-group in
    let e : c.decode_first_four-first.result + c.group_count-threes.result * 3 ≡ c.decode_first_four-first.result + l.group * 3 = omega (arith, c.loop-group-test.false, l.auto.group-end) in
    rw e (record {
      done = l.invariant.done;
      heads_left = l.invariant.heads_left;
      lens_left = l.invariant.lens_left;
      heads_count = l.invariant.heads_count;
      lens_count = l.invariant.lens_count;
      symbols_count = l.invariant.symbols_count;
    })

pub returns : goal.returns
returns g c = record {
  decoded = λ k lt d. c.loop-j.invariant.done k (omega (arith, lt, c.loop-j-test.false, c.loop-group.invariant.heads_count)) d;
}
