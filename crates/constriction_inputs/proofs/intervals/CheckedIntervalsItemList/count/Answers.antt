use Rattle.std.proofs.Common.{◌∙◌, arith, map, sym}
use Rattle.std.proofs.lemmas.List.{length-map}
use Rattle.constriction_inputs.proofs.IntervalPlaces.{items_counted}
use Rattle.constriction_inputs.proofs.intervals.CheckedIntervalsItemList.count.Goals as goal

pub returns : goal.returns
returns g c =
    let list = c.args.self.now in
    let number = g.P.Natural.number in
    let same = length-map list.lefts.now number ∙ (list.same ∙ sym (length-map list.ps.now number)) in
    omega (arith, items_counted g.row.PRECISION (map number list.lefts.now) (map number list.ps.now) same, length-map list.lefts.now number)
