use Rattle.std.proofs.Common.{sym}
use Rattle.constriction_inputs.proofs.MixtureTables.{mixtures_counted}
use Rattle.constriction_inputs.proofs.models.mixtures.MixtureListModelList.count.Goals as goal

pub returns : goal.returns
returns g c = sym (mixtures_counted g.row.PRECISION _ c.args.self.now.count)
