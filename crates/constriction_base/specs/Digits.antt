-- The lowest digits of a number, as a list of a given length with leading zeros, and the length of a number in words.
use Rattle.std.specs.Prelude.{ℕ, zero, suc, ◌/◌, ◌%◌, ◌^◌, List, [], ◌∷◌, ◌++◌, length}
use Rattle.std.specs.Int.Digits.{digits_of}

-- The lowest `count` digits of n in base b, the highest of them first, with leading zeros.
abbrev pub fixed_digits : ℕ → ℕ → ℕ → List ℕ
fixed_digits b zero n = []
fixed_digits b (suc count) n = fixed_digits b count (n / b) ++ (n % b ∷ [])

-- The number of words of w bits of a number, without leading zero words.
abbrev pub count_of_words : ℕ → ℕ → ℕ
count_of_words w head = length (digits_of (2 ^ w) head)
