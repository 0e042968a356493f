-- Lemma about a family as a model, for the implementations of the model traits.
use Rattle.std.specs.Prelude.{ℕ, ℤ}
use Rattle.constriction_models.specs.Families.{family_below}
use Rattle.constriction_models.specs.Laplace.{laplace_values, laplace_are_values}
use Rattle.constriction_models.specs.Logistic.{logistic_values, logistic_are_values}
use Rattle.constriction_models.specs.Normal.{normal_values, normal_are_values}
use Rattle.constriction_models.specs.Quantized.{IsDistribution}
use Rattle.constriction_models.specs.declared.families.Family.{Family}
use Rattle.constriction_models.specs.declared.families.Family.TheVariants as family
use Rattle.constriction_models.specs.laws.Interpolating.{scaled_is_distribution}

-- The distribution function of a family, a location and a scale never falls, and is at most 2 ^ 32.
pub family_is_distribution : (of : Family) (location : ℤ) (scale : ℕ) → IsDistribution (family_below of location scale)
family_is_distribution family.Gaussian location scale = scaled_is_distribution normal_values 16 location scale normal_are_values
family_is_distribution family.Laplace location scale = scaled_is_distribution laplace_values 64 location scale laplace_are_values
family_is_distribution family.Logistic location scale = scaled_is_distribution logistic_values 64 location scale logistic_are_values
