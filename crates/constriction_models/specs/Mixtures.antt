-- Mixtures: weighted means of distribution functions, with each value rounded down once.
use Rattle.std.specs.Prelude.{ℕ, ℤ, ◌*◌, ◌/◌, List, map}
use Rattle.std.specs.List.{sum_by}
use Rattle.constriction_models.specs.declared.mixture.Component.{Component}

-- A component of a mixture: its weight, and its distribution function in units of 2 ^ -32.
pub record Weighted : Type 0 where
  pub weight : ℕ
  pub below : ℤ → ℕ

-- The sum of the weights.
abbrev pub total_weight : List Weighted → ℕ
total_weight parts = sum_by (λ part. part.weight) parts

-- The sum over the components of the weight times the probability below a place.
abbrev pub weighted_sum : List Weighted → ℤ → ℕ
weighted_sum parts place = sum_by (λ part. part.weight * part.below place) parts

-- The mixture's probability below a place, in units of 2 ^ -32: the weighted mean, rounded down once.
unfoldable pub mixed : List Weighted → ℤ → ℕ
mixed parts place = weighted_sum parts place / total_weight parts

-- The weight of each component in a list, with the function that `below` gives for the component's distribution.
abbrev pub weighted : {D : Type 0} → (D → ℤ → ℕ) → List (Component D) → List Weighted
weighted below components = map (λ c. record { weight = c.weight; below = below c.distribution }) components
