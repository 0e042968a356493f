use Rattle.std.proofs.Common.{map, rules}
use Rattle.constriction_inputs.proofs.IntervalPlaces.{intervals_known}
use Rattle.constriction_inputs.proofs.intervals.IntervalsItems.know.Goals as goal

pub returns : goal.returns
returns g c =
    let list = c.args.self.now in
    let number = g.P.Natural.number in
    (λ yes. intervals_known g.row.PRECISION (map number list.lefts.now) (map number list.ps.now) c.requires.1, λ known. search rules)
