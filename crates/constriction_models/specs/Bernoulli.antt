-- The table of a Bernoulli model, which has the symbols false and true.
use Rattle.std.specs.Prelude.{ℕ, ◌-◌, ◌^◌, List, [], ◌∷◌, Bool, true, false}

-- The entries of false and of true. The symbol true has the given weight, and false has the rest of 2 ^ precision.
abbrev pub bernoulli : ℕ → ℕ → List (Bool × ℕ × ℕ)
bernoulli precision weight = (false, 0, 2 ^ precision - weight) ∷ (true, 2 ^ precision - weight, weight) ∷ []
