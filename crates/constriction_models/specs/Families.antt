-- Distribution functions of a family (Gaussian, Laplace or logistic) that is chosen at run time.
use Rattle.std.specs.Prelude.{ℕ, ℤ}
use Rattle.constriction_models.specs.Interpolation.{scaled}
use Rattle.constriction_models.specs.Normal.{normal_values}
use Rattle.constriction_models.specs.Laplace.{laplace_values}
use Rattle.constriction_models.specs.Logistic.{logistic_values}
use Rattle.constriction_models.specs.Quantized.{IsDistribution}
use Rattle.constriction_models.specs.declared.families.Family.{Family}
use Rattle.constriction_models.specs.declared.families.Family.TheVariants as family
use Rattle.constriction_models.specs.declared.families.OneOf.{OneOf}
use Rattle.constriction_models.specs.declared.families.OneOf.TheVariants.{First, Second, Third}

-- The distribution function of a family, a location and a scale.
abbrev pub family_below : Family → ℤ → ℕ → ℤ → ℕ
family_below family.Gaussian location scale = scaled normal_values 16 location scale
family_below family.Laplace location scale = scaled laplace_values 64 location scale
family_below family.Logistic location scale = scaled logistic_values 64 location scale

-- The distribution function of a distribution of one of three types.
abbrev pub below_of_one : {A B C : Type 0} → (A → ℤ → ℕ) → (B → ℤ → ℕ) → (C → ℤ → ℕ) → OneOf A B C → ℤ → ℕ
below_of_one first second third (First d) = first d
below_of_one first second third (Second d) = second d
below_of_one first second third (Third d) = third d

pub one_never_falls : {A B C : Type 0} (first : A → ℤ → ℕ) (second : B → ℤ → ℕ) (third : C → ℤ → ℕ)
    → ((d : A) → IsDistribution (first d)) → ((d : B) → IsDistribution (second d)) → ((d : C) → IsDistribution (third d)) → (d : OneOf A B C) → IsDistribution (below_of_one first second third d)
one_never_falls first second third a b c (First d) = a d
one_never_falls first second third a b c (Second d) = b d
one_never_falls first second third a b c (Third d) = c d
