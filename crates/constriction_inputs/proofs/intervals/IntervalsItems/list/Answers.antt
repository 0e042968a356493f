use Rattle.std.proofs.Common.{◌∙◌, ◌+◌, ◌<◌, ◌≤◌, ◌^◌, ℕ, arith, get_or, length, map, sym}
use Rattle.std.proofs.lemmas.List.{length-map}
use Rattle.constriction_inputs.proofs.IntervalPlaces.{each_within, items_counted}
use Rattle.constriction_inputs.proofs.intervals.IntervalsItems.list.Goals as goal

pub invariant_of-result : goal.invariant_of-result
invariant_of-result g c =
    let list = c.args.self.now in
    let number = g.P.Natural.number in
    let fit = c.requires.fit in
    let long = length-map list.lefts.now number in
    let each : (k : ℕ) → k < length list.lefts.now → (0 < get_or (map number list.ps.now) k 0) × (get_or (map number list.lefts.now) k 0 + get_or (map number list.ps.now) k 0 ≤ 2 ^ g.row.PRECISION) =
    λ k within. each_within g.row.PRECISION (map number list.lefts.now) (map number list.ps.now) fit.0 fit.1 k (omega (arith, within, long)) in
    record {
      positive = c.requires.precision.0;
      fits = c.requires.precision.1;
      same = sym long ∙ (fit.0 ∙ length-map list.ps.now number);
      some = λ k within. (each k within).0;
      inside = λ k within. (each k within).1;
    }

pub returns-clause-count : goal.returns-clause-count
returns-clause-count g c =
    let list = c.args.self.now in
    let number = g.P.Natural.number in
    let same = c.requires.fit.0 in
    omega (arith, items_counted g.row.PRECISION (map number list.lefts.now) (map number list.ps.now) same, same, length-map list.ps.now number)
