use Rattle.constriction_inputs.proofs.MixtureTables.{mixtures_counted}
use Rattle.constriction_inputs.proofs.models.mixtures.MixturesEncoderModels.list.Goals as goal

pub returns-clause-count : goal.returns-clause-count
returns-clause-count g c = mixtures_counted g.row.PRECISION _ c.args.count
