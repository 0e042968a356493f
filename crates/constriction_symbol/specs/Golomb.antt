-- The Exp-Golomb codewords, and the bits after which a reader reads on or stops with an error.
use Rattle.std.specs.Prelude.{◌≡◌, ℕ, ◌+◌, ◌-◌, ◌<◌, ◌≤◌, ◌==◌, ◌⊎◌, Bool, true, false, List, ◌++◌, length, map, replicate, ◌*◌, [], ◌∷◌, if◌then◌else◌}
use Rattle.std.specs.Int.Digits.{digits_of}

-- The bits of a number without leading zeros, highest first.
abbrev pub binary : ℕ → List Bool
binary n = map (λ d. d == 1) (digits_of 2 n)

-- The codeword of n: zeros, and then the bits of n + 1. There is one zero fewer than n + 1 has bits.
abbrev pub golomb : ℕ → List Bool
golomb n = replicate (length (binary (n + 1)) - 1) false ++ binary (n + 1)

-- The number whose bits, highest first, are the bits of n and then the given bits.
abbrev pub number_after : ℕ → List Bool → ℕ
number_after n [] = n
number_after n (b ∷ bs) = number_after (2 * n + (if b then 1 else 0)) bs

-- The given number of zeros, a 1, and then other bits.
abbrev pub zeros_one : ℕ → List Bool → List Bool
zeros_one count tail = replicate count false ++ true ∷ tail

-- A reader of numbers of b bits reads on after these bits: at most b zeros, alone or followed by a 1 and fewer bits
-- than zeros.
abbrev pub WantsBit : ℕ → List Bool → Type 0
WantsBit b bits =
    ((count : ℕ) × (count ≤ b) × (bits ≡ replicate count false))
    ⊎ ((count : ℕ) × (tail : List Bool) × (count ≤ b) × (length tail < count) × (bits ≡ zeros_one count tail))

-- The reader stops with an error after these bits: b + 1 zeros, or b zeros, a 1, and b bits that aren't all 0.
abbrev pub IsInvalid : ℕ → List Bool → Type 0
IsInvalid b bits =
    (bits ≡ replicate (b + 1) false)
    ⊎ ((tail : List Bool) × (length tail ≡ b) × (tail ≡ replicate b false → ⊥) × (bits ≡ zeros_one b tail))
