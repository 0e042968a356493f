use Rattle.std.proofs.Common.{map}
use Rattle.constriction_base.specs.Tables.{table_of}
use Rattle.constriction_inputs.proofs.Listing.{items_listed}
use Rattle.constriction_inputs.proofs.models.weights.WeightsDecoderModels.decoder_list.Goals as goal

pub returns-in-Some-clause-items : goal.returns-in-Some-clause-items
returns-in-Some-clause-items g c =
    λ others many. items_listed g.row.PRECISION _ others (table_of (map g.P.Natural.number c.args.self.now.weights.now)) _ many c.in-Some.ensures
