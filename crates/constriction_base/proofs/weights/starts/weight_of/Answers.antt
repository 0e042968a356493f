use Rattle.std.proofs.Common.{◌≡◌, ℕ, List, ◌+◌, ◌-◌, ◌^◌, ◌<◌, ◌∙◌, map, length, get_or, refl, sym, ap, arith}
use Rattle.std.proofs.lemmas.List.{length-map, get_or-map}
use Rattle.constriction_base.specs.laws.Weights.{weight_at, ends_inside, ends_at}
use Rattle.constriction_base.proofs.weights.starts.weight_of.Goals as goal

-- what is read at a place is the start there
read : {W : Type 0} (number : W → ℕ) (items : List W) (k : ℕ) (word : W) → k < length items → word ≡ get_or items k word → number word ≡ get_or (map number items) k 0
read number items k word within is = ap number is ∙ sym (get_or-map number items k word 0 within)

pub minus-requires : goal.minus-requires
minus-requires g c =
    let number = g.Probability.Natural.number in
    let items = c.args.starts.now in
    let starts = map number items in
    let len = length-map items number in
    let start = read number items c.args.symbol _ c.requires.within c.index-starts-symbol.is in
    let next = read number items (c.args.symbol + 1) _ (omega (arith, c.if-symbol-starts.true)) c.index-starts-symbol-then-symbol-starts.is in
    let end = ends_inside starts (2 ^ g.row.PRECISION) c.args.symbol (c.args.symbol + 1) refl (omega (arith, len, c.if-symbol-starts.true)) in
    omega (arith, start, next, end, c.requires.rising.rising c.args.symbol (omega (arith, len, c.requires.within)))

pub returns-then-symbol-starts : goal.returns-then-symbol-starts
returns-then-symbol-starts g c =
    let number = g.Probability.Natural.number in
    let items = c.args.starts.now in
    let starts = map number items in
    let high = 2 ^ g.row.PRECISION in
    let len = length-map items number in
    let start = read number items c.args.symbol _ c.requires.within c.index-starts-symbol.is in
    let next = read number items (c.args.symbol + 1) _ (omega (arith, c.if-symbol-starts.true)) c.index-starts-symbol-then-symbol-starts.is in
    let end = ends_inside starts high c.args.symbol (c.args.symbol + 1) refl (omega (arith, len, c.if-symbol-starts.true)) in
    omega (arith, start, next, end, c.minus.ensures, weight_at starts high c.args.symbol (omega (arith, len, c.requires.within)))

pub minus-requires-else-symbol-starts : goal.minus-requires-else-symbol-starts
minus-requires-else-symbol-starts g c =
    let number = g.Probability.Natural.number in
    let items = c.args.starts.now in
    let start = read number items c.args.symbol _ c.requires.within c.index-starts-symbol.is in
    omega (arith, start, c.ones.ensures, c.requires.rising.below c.args.symbol (omega (arith, length-map items number, c.requires.within)))

-- the last interval's length fits
pub plus-requires : goal.plus-requires
plus-requires g c =
    let number = g.Probability.Natural.number in
    let items = c.args.starts.now in
    let starts = map number items in
    let start = read number items c.args.symbol _ c.requires.within c.index-starts-symbol.is in
    let symbol : length items - 1 ≡ c.args.symbol = omega (arith, c.requires.within, c.if-symbol-starts.false) in
    let last : get_or starts (length items - 1) 0 ≡ get_or starts c.args.symbol 0 = ap (λ (n : ℕ). get_or starts n 0) symbol in
    let below = c.requires.rising.below c.args.symbol (omega (arith, length-map items number, c.requires.within)) in
    omega (arith, start, last, below, c.requires.last, c.minus-else-symbol-starts.ensures, c.unit.ensures, c.ones.ensures)

pub returns-else-symbol-starts : goal.returns-else-symbol-starts
returns-else-symbol-starts g c =
    let number = g.Probability.Natural.number in
    let items = c.args.starts.now in
    let starts = map number items in
    let high = 2 ^ g.row.PRECISION in
    let len = length-map items number in
    let start = read number items c.args.symbol _ c.requires.within c.index-starts-symbol.is in
    let below = c.requires.rising.below c.args.symbol (omega (arith, len, c.requires.within)) in
    let end = ends_at starts high c.args.symbol (omega (arith, len, c.if-symbol-starts.false)) in
    omega (arith, start, below, end, c.plus.ensures, c.minus-else-symbol-starts.ensures, c.ones.ensures, c.unit.ensures, weight_at starts high c.args.symbol (omega (arith, len, c.requires.within)))
