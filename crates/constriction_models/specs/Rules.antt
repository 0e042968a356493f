-- The integer arithmetic that computes the tabulated values of distribution functions. A large number, `one`, stands
-- for 1.
use Rattle.std.specs.Prelude.{ℕ, zero, suc, ◌+◌, ◌-◌, ◌*◌, ◌/◌, List, [], ◌∷◌, ◌++◌, map, reverse, drop}

-- Adds the terms 1 / (d ^ n * n!) to `sum`, from the given term on. The sum of all terms is exp (1 / d).
unfoldable pub exponential : ℕ → ℕ → ℕ → ℕ → ℕ → ℕ
exponential zero term n d sum = sum
exponential (suc fuel) zero n d sum = sum
exponential (suc fuel) (suc term) n d sum = exponential fuel (suc term / (d * n)) (n + 1) d (sum + suc term)

-- The number exp (- 1 / d).
unfoldable pub decay : ℕ → ℕ → ℕ
decay one d = one * one / exponential 200 one 1 d 0

-- The numbers p, p * q, p * q ^ 2 and so on.
unfoldable pub powers : ℕ → ℕ → ℕ → ℕ → List ℕ
powers one zero p q = []
powers one (suc steps) p q = p ∷ powers one steps (p * q / one) q

-- The number all * part / whole, rounded to the nearest integer.
unfoldable pub rounded : ℕ → ℕ → ℕ → ℕ
rounded all part whole = (all * part + whole / 2) / whole

-- The values below the middle and above it. `lows` lists the values from the middle down. Each value above the middle
-- is `all` minus the value as far below the middle.
unfoldable pub mirrored : ℕ → List ℕ → List ℕ
mirrored all lows = reverse lows ++ drop 1 (map (λ low. all - low) lows)
