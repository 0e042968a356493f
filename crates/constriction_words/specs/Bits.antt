-- The bits of a number.
use Rattle.std.specs.Prelude.{ℕ, zero, suc, ◌%◌, ◌/◌, ◌==◌, Bool, List, [], ◌∷◌}

-- The n lowest bits of a number, lowest first.
abbrev pub bits_of : ℕ → ℕ → List Bool
bits_of zero x = []
bits_of (suc n) x = (x % 2 == 1) ∷ bits_of n (x / 2)
