use Rattle.std.proofs.Common.{map, ap}
use Rattle.constriction_base.specs.Tables.{table_of}
use Rattle.constriction_inputs.proofs.Listing.{items_listed}
use Rattle.constriction_inputs.proofs.models.weights.WeightsEncoderModels.list.Goals as goal

pub returns-then-count-le1-clause-items : goal.returns-then-count-le1-clause-items
returns-then-count-le1-clause-items g c =
    λ others many. items_listed g.row.PRECISION _ others (table_of (map g.P.Natural.number c.args.self.now.weights.now)) _ many (ap (λ weights. table_of (map g.P.Natural.number weights)) c.of_total-row.ensures)

pub returns-in-Some-clause-items : goal.returns-in-Some-clause-items
returns-in-Some-clause-items g c =
    λ others many. items_listed g.row.PRECISION _ others (table_of (map g.P.Natural.number c.args.self.now.weights.now)) _ many c.in-Some.ensures.table
