use Rattle.std.proofs.Common.{refl}
use Rattle.constriction_models.specs.Rules.{powers, mirrored, rounded, decay, exponential}
use Rattle.constriction_models.specs.Laplace.{laplace_values}
use Rattle.constriction_models.proofs.laplace.StandardLaplaceStandardDistribution.table.Goals as goal

pub returns : goal.returns
unfolding laplace_values powers mirrored rounded decay exponential
returns c = refl
