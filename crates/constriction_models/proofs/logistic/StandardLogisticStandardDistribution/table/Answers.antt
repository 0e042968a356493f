use Rattle.std.proofs.Common.{refl}
use Rattle.constriction_models.specs.Rules.{powers, mirrored, rounded, decay, exponential}
use Rattle.constriction_models.specs.Logistic.{logistic_values}
use Rattle.constriction_models.proofs.logistic.StandardLogisticStandardDistribution.table.Goals as goal

pub returns : goal.returns
unfolding logistic_values powers mirrored rounded decay exponential
returns c = refl
