use Rattle.std.proofs.Common.{map, sym}
use Rattle.constriction_inputs.proofs.Listing.{tables_counted}
use Rattle.constriction_inputs.proofs.models.rows.RowListModelList.count.Goals as goal

pub returns : goal.returns
returns g c =
    let list = c.args.self.now in
    sym (tables_counted list.width list.count (map g.P.Natural.number list.weights.now))
