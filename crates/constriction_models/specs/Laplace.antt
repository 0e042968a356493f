-- The 2049 tabulated values of the Laplace distribution function.
use Rattle.std.specs.Prelude.{ℕ, ◌≤◌, ◌^◌, List, map}
use Rattle.std.proofs.Common.{refl, arith}
use Rattle.constriction_models.specs.Interpolation.{AreValues, rises_from}
use Rattle.constriction_models.specs.Rules.{powers, mirrored, rounded, decay, exponential}

-- The 2049 values, for k from 0 to 2048: 2 ^ 32 times the distribution function at x = -32 + k / 32 scales, rounded to
-- the nearest integer. Below the middle, the function is exp (x) / 2.
unfoldable pub laplace_values : List ℕ
laplace_values = mirrored 4294967296 (map (λ p. rounded 2147483648 p (2 ^ 160)) (powers (2 ^ 160) 1025 (2 ^ 160) (decay (2 ^ 160) 32)))

pub laplace_are_values : AreValues laplace_values
unfolding rises_from laplace_values powers mirrored rounded decay exponential
laplace_are_values = record { len = refl; rises = refl; last = refl }

-- The table is 64 scales wide.
pub laplace_is_wide : (1 ≤ 64) × (64 ≤ 64)
laplace_is_wide = (omega arith, omega arith)
