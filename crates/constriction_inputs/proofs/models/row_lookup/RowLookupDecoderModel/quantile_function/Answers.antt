use Rattle.std.proofs.Common.{map}
use Rattle.constriction_base.specs.Tables.{table_of}
use Rattle.constriction_base.specs.laws.Weights.{weights_make_table}
use Rattle.constriction_inputs.proofs.models.row_lookup.RowLookupDecoderModel.quantile_function.Goals as goal

pub returns-clause-found : goal.returns-clause-found
returns-clause-found g c =
    let t = c.args.self.now in
    (c.find.ensures (table_of (map g.P.Natural.number t.row.weights.now)) (weights_make_table g.row.PRECISION (map g.P.Natural.number t.row.weights.now) t.row.total) t.found).0

pub returns-clause-covers : goal.returns-clause-covers
returns-clause-covers g c =
    let t = c.args.self.now in
    (c.find.ensures (table_of (map g.P.Natural.number t.row.weights.now)) (weights_make_table g.row.PRECISION (map g.P.Natural.number t.row.weights.now) t.row.total) t.found).1
