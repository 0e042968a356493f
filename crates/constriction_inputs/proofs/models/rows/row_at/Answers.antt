use Rattle.std.proofs.Common.{◌∙◌, ◌+◌, ◌-◌, ◌*◌, ap, drop, map, rules, take}
use Rattle.constriction_inputs.specs.Weights.{IsTotal}
use Rattle.constriction_inputs.proofs.RowTables.{row_numbers}
use Rattle.constriction_inputs.proofs.models.rows.row_at.Goals as goal

pub of_total-requires : goal.of_total-requires
of_total-requires g c =
    let number = g.P.Natural.number in
    let start = c.args.width * c.args.place in
    let total : IsTotal g.row.PRECISION (map number (take (start + c.args.width - start) (drop start c.args.weights.now))) = rw (row_numbers number c.args.weights.now start c.args.width) c.requires.total in
    search rules

pub returns : goal.returns
returns g c = ap (map g.P.Natural.number) c.of_total.ensures ∙ row_numbers g.P.Natural.number c.args.weights.now (c.args.width * c.args.place) c.args.width
