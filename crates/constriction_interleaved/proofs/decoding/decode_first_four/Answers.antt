use Rattle.std.proofs.Common.{◌≡◌, ◌*◌, ◌<◌, ◌≤◌, ℕ, arith, drop, length, slice_index, take, mul-le-mul_right}
use Rattle.std.proofs.lemmas.List.{get_or-take, length-take-le}
use Rattle.constriction_base.specs.Models.{Model}
use Rattle.constriction_interleaved.proofs.LaneGroups.{first_lanes}
use Rattle.constriction_interleaved.proofs.LaneThree.{behind}
use Rattle.constriction_interleaved.proofs.decoding.decode_first_four.Goals as goal

-- the first four rows lie within the matrix
four_within : (n width all : ℕ) → 4 ≤ n → all ≡ n * width → 4 * width ≤ all
four_within n width all le is = let rows : 4 * width ≤ n * width = mul-le-mul_right width le in omega arith

pub decode_group_of_four-requires-clause-within : goal.decode_group_of_four-requires-clause-within
decode_group_of_four-requires-clause-within g c = λ j lt.
    let lens : 4 ≤ length c.args.lens.now = omega (arith, c.if-heads-lt4.false, c.requires.lens) in
    let less : j < 4 = omega (arith, lt, length-take-le 4 c.args.lens.now lens) in
    let same : slice_index (take 4 c.args.lens.now) j ≡ slice_index c.args.lens.now j = get_or-take 4 c.args.lens.now j 0 less in
    let below = c.requires.within j (omega (arith, less, lens)) in
    omega (arith, same, below)

pub returns-clause-kept : goal.returns-clause-kept
returns-clause-kept g c =
    let call = c.decode_group_of_four in
    let heads : 4 ≤ length c.args.heads.now = omega (arith, c.if-heads-lt4.false) in
    let lens : 4 ≤ length c.args.lens.now = omega (arith, heads, c.requires.lens) in (
      behind 4 call.new.heads (drop 4 c.args.heads.now) (omega (arith, call.auto.heads, length-take-le 4 c.args.heads.now heads)),
      behind 4 call.new.lens (drop 4 c.args.lens.now) (omega (arith, call.auto.lens, length-take-le 4 c.args.lens.now lens)),
    )

pub returns-clause-decoded : goal.returns-clause-decoded
returns-clause-decoded g c =
    let model : Model ℕ = record { precision = g.row.PRECISION; table = g.M.EntropyModel.table c.args.model.now } in
    let call = c.decode_group_of_four in
    let heads : 4 ≤ length c.args.heads.now = omega (arith, c.if-heads-lt4.false) in
    let lens : 4 ≤ length c.args.lens.now = omega (arith, heads, c.requires.lens) in
    let symbols = four_within (length c.args.heads.now) c.args.count (length c.args.symbols.now) heads c.requires.symbols in
    first_lanes g.Word.Natural.number g.State.Natural.number g.Word.Natural.BITS g.State.Natural.BITS model c.args.width c.args.count c.args.words.now c.args.heads.now c.args.lens.now
    4 call.new.heads _ call.new.lens _ call.new.symbols _
    (omega (arith, call.auto.heads, length-take-le 4 c.args.heads.now heads)) (omega (arith, call.auto.lens, length-take-le 4 c.args.lens.now lens))
    (omega (arith, call.auto.symbols, length-take-le (4 * c.args.count) c.args.symbols.now symbols)) call.ensures.decoded
