use Rattle.std.proofs.Common.{refl}
use Rattle.constriction_models.specs.Rules.{mirrored, rounded, decay, exponential}
use Rattle.constriction_models.specs.Normal.{normal_values, normal_by, normal_from, as_parts, integrals, series}
use Rattle.constriction_models.proofs.gaussian.StandardNormalStandardDistribution.table.Goals as goal

pub returns : goal.returns
unfolding normal_values normal_by normal_from as_parts integrals series mirrored rounded decay exponential
returns c = refl
