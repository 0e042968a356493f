use Rattle.std.proofs.Common.{◌≡◌, ◌<◌, ◌∙◌, ℕ, List, arith, get_or, length, map, rules, subst, sym}
use Rattle.std.proofs.lemmas.List.{get_or-map, length-map}
use Rattle.constriction_inputs.specs.Intervals.{interval_items}
use Rattle.constriction_inputs.specs.Items.{HasAt, HasInterval}
use Rattle.constriction_inputs.proofs.IntervalPlaces.{interval_at, items_counted}
use Rattle.constriction_inputs.proofs.intervals.CheckedIntervalsItemList.interval.Goals as goal

module _ {P : Type 0} (number : P → ℕ) (precision : ℕ) (lefts ps : List P) (same : length lefts ≡ length ps) (k : ℕ) (within : k < length (interval_items precision (map number lefts) (map number ps))) where
  as_long : length (map number lefts) ≡ length (map number ps)
  as_long = length-map lefts number ∙ (same ∙ sym (length-map ps number))

  in_lefts : k < length lefts
  in_lefts = omega (arith, within, items_counted precision (map number lefts) (map number ps) as_long, length-map lefts number)

  in_ps : k < length ps
  in_ps = omega (arith, in_lefts, same)

pub bounds-self-place : goal.bounds-self-place
bounds-self-place g c =
    let list = c.args.self.now in
    in_ps g.P.Natural.number g.row.PRECISION list.lefts.now list.ps.now list.same c.args.place c.requires

pub offset_bounds-self-place : goal.offset_bounds-self-place
offset_bounds-self-place g c =
    let list = c.args.self.now in
    let within : c.args.place < length list.ps.now = in_ps g.P.Natural.number g.row.PRECISION list.lefts.now list.ps.now list.same c.args.place c.requires in
    search rules

pub bounds-self-place-in-Some : goal.bounds-self-place-in-Some
bounds-self-place-in-Some g c =
    let list = c.args.self.now in
    in_lefts g.P.Natural.number g.row.PRECISION list.lefts.now list.ps.now list.same c.args.place c.requires

pub offset_bounds-self-place-in-Some : goal.offset_bounds-self-place-in-Some
offset_bounds-self-place-in-Some g c =
    let list = c.args.self.now in
    let within : c.args.place < length list.lefts.now = in_lefts g.P.Natural.number g.row.PRECISION list.lefts.now list.ps.now list.same c.args.place c.requires in
    search rules

pub returns-in-Some-clause-found : goal.returns-in-Some-clause-found
returns-in-Some-clause-found g c =
    let list = c.args.self.now in
    let number = g.P.Natural.number in
    let k = c.args.place in
    let lefts = map number list.lefts.now in
    let ps = map number list.ps.now in
    let in_left : k < length list.lefts.now = in_lefts number g.row.PRECISION list.lefts.now list.ps.now list.same k c.requires in
    let in_p : k < length list.ps.now = in_ps number g.row.PRECISION list.lefts.now list.ps.now list.same k c.requires in
    let same = as_long number g.row.PRECISION list.lefts.now list.ps.now list.same k c.requires in
    let at = interval_at g.row.PRECISION g.P.Natural.BITS lefts ps k (list.positive, list.fits) same (omega (arith, in_left, length-map list.lefts.now number)) (list.some k in_left) (list.inside k in_left) in
    let left = get_or-map number list.lefts.now k c.index-self-place-in-Some.result 0 in_left in
    let p = get_or-map number list.ps.now k c.index-self-place.result 0 in_p ∙ sym c.in-Some.ensures in
    subst (λ (a : ℕ). HasAt (interval_items g.row.PRECISION lefts ps) k (HasInterval g.row.PRECISION g.P.Natural.BITS a (g.P.BitArray.nonzero_number c.in-Some.p))) left
    (subst (λ (b : ℕ). HasAt (interval_items g.row.PRECISION lefts ps) k (HasInterval g.row.PRECISION g.P.Natural.BITS (get_or lefts k 0) b)) p at)

pub returns-in-None-clause-impossible : goal.returns-in-None-clause-impossible
returns-in-None-clause-impossible g c =
    let list = c.args.self.now in
    let number = g.P.Natural.number in
    let k = c.args.place in
    let in_left : k < length list.lefts.now = in_lefts number g.row.PRECISION list.lefts.now list.ps.now list.same k c.requires in
    let in_p : k < length list.ps.now = in_ps number g.row.PRECISION list.lefts.now list.ps.now list.same k c.requires in
    let some = list.some k in_left in
    let p = get_or-map number list.ps.now k c.index-self-place.result 0 in_p ∙ c.in-None.ensures in
    absurd (omega (arith, some, p))
