-- The 2049 tabulated values of the normal distribution function.
use Rattle.std.specs.Prelude.{ℕ, ◌≤◌, zero, suc, ◌+◌, ◌-◌, ◌*◌, ◌/◌, ◌^◌, List, [], ◌∷◌, map, slice_index}
use Rattle.std.proofs.Common.{refl, arith}
use Rattle.constriction_models.specs.Interpolation.{AreValues, rises_from}
use Rattle.constriction_models.specs.Rules.{mirrored, rounded, decay, exponential}

-- Adds the terms x ^ n / (1 * 3 * .. * n) to `sum`, for each odd n from `odd` on. The first term is `term`, and x ^ 2
-- is square / 16384.
unfoldable pub series : ℕ → ℕ → ℕ → ℕ → ℕ → ℕ
series zero term odd square sum = sum
series (suc fuel) zero odd square sum = sum
series (suc fuel) (suc term) odd square sum = series fuel (suc term * square / (16384 * (odd + 2))) (odd + 2) square (sum + suc term)

-- The integrals of exp (- x ^ 2 / 2) from 0 to k / 128, from 0 to (k + 1) / 128, and so on. Here g is the function at
-- k / 128. The next g is g times r, and the next r is r times s.
unfoldable pub integrals : ℕ → ℕ → ℕ → ℕ → ℕ → ℕ → List ℕ
integrals one zero k g r s = []
integrals one (suc steps) k g r s = (g * series 400 (k * one / 128) 1 (k * k) 0) ∷ integrals one steps (k + 1) (g * r / one) (r * s / one) s

-- The values of the distribution function, computed from the integrals. Below the middle, a value is 2 ^ 31 minus
-- 2 ^ 31 * integral / last. The values above the middle mirror the values below it.
unfoldable pub as_parts : ℕ → List ℕ → List ℕ
as_parts last integrals = mirrored 4294967296 (map (λ integral. 2147483648 - rounded 2147483648 integral last) integrals)

unfoldable pub normal_from : List ℕ → List ℕ
normal_from integrals = as_parts (slice_index integrals 1024) integrals

unfoldable pub normal_by : ℕ → ℕ → List ℕ
normal_by one r = normal_from (integrals one 1025 0 one r (r * r / one))

-- The 2049 values, for k from 0 to 2048: 2 ^ 32 times the normal distribution function at -8 + k / 128 standard
-- deviations, rounded to the nearest integer. The function is cut off 8 standard deviations from the mean.
unfoldable pub normal_values : List ℕ
normal_values = normal_by (2 ^ 160) (decay (2 ^ 160) 32768)

pub normal_are_values : AreValues normal_values
unfolding rises_from normal_values normal_by normal_from as_parts integrals series mirrored rounded decay exponential
normal_are_values = record { len = refl; rises = refl; last = refl }

-- The table is 16 scales wide.
pub normal_is_wide : (1 ≤ 16) × (16 ≤ 64)
normal_is_wide = (omega arith, omega arith)
