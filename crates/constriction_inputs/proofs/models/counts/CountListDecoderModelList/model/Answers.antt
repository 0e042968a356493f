use Rattle.std.proofs.Common.{◌∙◌, ◌<◌, ap, arith, sym}
use Rattle.std.proofs.lemmas.Option.{none-some, same_Some}
use Rattle.constriction_models.specs.Categorical.{categorical}
use Rattle.constriction_inputs.proofs.CountTables.{table_at, tables_counted}
use Rattle.constriction_inputs.proofs.models.counts.CountListDecoderModelList.model.Goals as goal

pub unreachable-requires : goal.unreachable-requires
unreachable-requires g c =
    let list = c.args.self.now in
    let at : list.place < list.count = omega (arith, c.requires, tables_counted g.row.PRECISION list.width list.counts.now list.count) in
    none-some _ (rw c.in-None.is at list.selected at)

pub returns : goal.returns
returns g c =
    let list = c.args.self.now in
    let at : list.place < list.count = omega (arith, c.requires, tables_counted g.row.PRECISION list.width list.counts.now list.count) in
    let selected = rw c.in-Some.is at list.selected at in
    ap (categorical g.row.PRECISION) (same_Some _ _ selected) ∙ sym (table_at g.row.PRECISION list.width list.counts.now list.count list.place _ at)
