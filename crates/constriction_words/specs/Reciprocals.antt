-- The reciprocal of a divisor: a multiplier, an addend and a shift that give the exact quotient of each 64-bit number.
use Rattle.std.specs.Prelude.{◌≡◌, ℕ, ◌+◌, ◌*◌, ◌/◌, ◌^◌, ◌<◌}
use Rattle.constriction_words.specs.declared.reciprocal.Reciprocal.{Reciprocal}

-- For each number below 2 ^ bits, multiplying, adding and shifting gives its quotient by p.
abbrev pub ComputesQuotients : ℕ → ℕ → ℕ → ℕ → ℕ → Type 0
ComputesQuotients bits p multiplier addend shift = (x : ℕ) → x < 2 ^ bits → (x * multiplier + addend) / 2 ^ (bits + shift) ≡ x / p

-- `r` is the reciprocal of p, and p is above 0. The parts of `r` give the quotient by p of each number below 2 ^ 64.
abbrev pub IsReciprocalOf : Reciprocal → ℕ → Type 0
IsReciprocalOf r p = (0 < p) × ComputesQuotients 64 p r.multiplier r.addend r.shift
