use Rattle.std.proofs.Common.{sym}
use Rattle.constriction_inputs.proofs.CountTables.{tables_counted}
use Rattle.constriction_inputs.proofs.models.counts.CountListModelList.count.Goals as goal

pub returns : goal.returns
returns g c =
    let list = c.args.self.now in
    sym (tables_counted g.row.PRECISION list.width list.counts.now list.count)
