use Rattle.std.proofs.Common.{map}
use Rattle.std.proofs.lemmas.Option.{none-some, same_Some}
use Rattle.constriction_inputs.proofs.RowTables.{row_table_is, row_within}
use Rattle.constriction_inputs.proofs.models.rows.RowListDecoderModelList.model.Goals as goal

pub unreachable-requires : goal.unreachable-requires
unreachable-requires g c =
    let list = c.args.self.now in
    none-some _ (rw c.in-None.is at list.selected (row_within (map g.P.Natural.number list.weights.now) list.width list.count list.place c.requires))

pub returns : goal.returns
returns g c =
    let list = c.args.self.now in
    let weights = map g.P.Natural.number list.weights.now in
    let selected = rw c.in-Some.is at list.selected (row_within weights list.width list.count list.place c.requires) in
    row_table_is weights list.width list.count list.place c.requires _ _ (same_Some _ _ selected)
