-- Reading zeros and numbers from an iterator over `Result`s of bits, for Exp-Golomb codewords.
use Rattle.std.specs.Prelude.{◌≡◌, ℕ, ◌+◌, ◌≤◌, Bool, true, false, List, [], ◌∷◌, ◌++◌, length, replicate, Option, Result, MatchOption}
use Rattle.constriction_symbol.specs.Codewords.{YieldsBits}
use Rattle.constriction_symbol.specs.Golomb.{number_after}

-- The iterator gives `found` zeros, at most `most`, and then a 1. If `found` is `None`, it gives `most` + 1 zeros.
abbrev pub CountsZeros : {I E : Type 0} → (I → Option (Result Bool E) → I → Type 0) → ℕ → I → Option ℕ → I → Type 0
CountsZeros next most old found new = MatchOption found
    (YieldsBits next old (replicate (most + 1) false) new)
    (λ count. (count ≤ most) × YieldsBits next old (replicate count false ++ true ∷ []) new)

-- The iterator gives `count` bits, and the number is the one whose bits are those of `start` and then these.
abbrev pub YieldsNumber : {I E : Type 0} → (I → Option (Result Bool E) → I → Type 0) → ℕ → ℕ → I → ℕ → I → Type 0
YieldsNumber next start count old number new =
    (bits : List Bool) × (length bits ≡ count) × (number ≡ number_after start bits) × YieldsBits next old bits new
