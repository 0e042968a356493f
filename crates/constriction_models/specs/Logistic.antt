-- The 2049 tabulated values of the logistic distribution function.
use Rattle.std.specs.Prelude.{ℕ, ◌≤◌, ◌+◌, ◌^◌, List, map}
use Rattle.std.proofs.Common.{refl, arith}
use Rattle.constriction_models.specs.Interpolation.{AreValues, rises_from}
use Rattle.constriction_models.specs.Rules.{powers, mirrored, rounded, decay, exponential}

-- The 2049 values, for k from 0 to 2048: 2 ^ 32 times the distribution function at x = -32 + k / 32 scales, rounded to
-- the nearest integer. Below the middle, the function is exp (x) / (1 + exp (x)).
unfoldable pub logistic_values : List ℕ
logistic_values = mirrored 4294967296 (map (λ p. rounded 4294967296 p (2 ^ 160 + p)) (powers (2 ^ 160) 1025 (2 ^ 160) (decay (2 ^ 160) 32)))

pub logistic_are_values : AreValues logistic_values
unfolding rises_from logistic_values powers mirrored rounded decay exponential
logistic_are_values = record { len = refl; rises = refl; last = refl }

-- The table is 64 scales wide.
pub logistic_is_wide : (1 ≤ 64) × (64 ≤ 64)
logistic_is_wide = (omega arith, omega arith)
