-- Counts in proportion to floats. Each float is given by its bits (IEEE 754 binary64), as a number below 2 ^ 64.
use Rattle.std.specs.Prelude.{◌≡◌, ℕ, ◌+◌, ◌-◌, ◌*◌, ◌/◌, ◌%◌, ◌^◌, ◌<◌, ◌≤◌, List, map, Bool, cond, nat_eq, nat_lt, max}
use Rattle.std.specs.List.{fold, sum}
use lib.Count.{count_leading_zeros}

-- The bits of a float, where negative zero (2 ^ 63) has the bits of zero. Floats that are at least 0 have the order of
-- these bits.
unfoldable pub float_bits : ℕ → ℕ
float_bits b = cond (nat_eq b (2 ^ 63)) 0 b

-- The float is finite and at least 0. Infinity has the bits 2047 * 2 ^ 52, and negative floats and NaN have greater ones.
unfoldable pub is_probability : ℕ → Bool
is_probability b = nat_lt (float_bits b) (2047 * 2 ^ 52)

-- The significand of a finite float that is at least 0, as a whole number. A subnormal float has no leading bit.
unfoldable pub significand : ℕ → ℕ
significand bits = cond (nat_lt bits (2 ^ 52)) bits (2 ^ 52 + bits % 2 ^ 52)

-- The exponent field of the same float. Subnormal floats count as 1, because their units are as large.
unfoldable pub exponent : ℕ → ℕ
exponent bits = max (bits / 2 ^ 52) 1

-- The same float in units of 2 ^ -1074, the least float above 0.
unfoldable pub units : ℕ → ℕ
units bits = significand bits * 2 ^ (exponent bits - 1)

-- The number of units of 2 ^ -1074 in a float.
unfoldable pub float_units : ℕ → ℕ
float_units b = units (float_bits b)

-- The greatest bits of the floats, or 0 if there are no floats.
unfoldable pub greatest_bits : List ℕ → ℕ
greatest_bits floats = fold (λ most b. max most (float_bits b)) 0 floats

-- The greatest number of units of the floats, or 0 if there are no floats.
unfoldable pub greatest_units : List ℕ → ℕ
greatest_units floats = fold (λ most b. max most (float_units b)) 0 floats

-- The number of binary digits of n, from its highest 1. `most` is a limit: n is below 2 ^ most.
unfoldable pub binary_length : ℕ → ℕ → ℕ
binary_length most n = most - count_leading_zeros most n

-- The number of binary digits of the greatest float's units. Each finite float has fewer than 2 ^ 2098 units.
unfoldable pub row_length : List ℕ → ℕ
row_length floats = binary_length 2098 (greatest_units floats)

-- n / d, rounded to the nearest whole number. A half is rounded to the even one.
unfoldable pub nearest : ℕ → ℕ → ℕ
nearest n d = cond (nat_lt (2 * (n % d)) d) (n / d) (cond (nat_lt d (2 * (n % d))) (n / d + 1) (n / d + n / d % 2))

-- The count of a float, in a row whose greatest float has units of `len` binary digits. The greatest float has a count
-- from 2 ^ (bits - 1) to 2 ^ bits.
unfoldable pub float_count : ℕ → ℕ → ℕ → ℕ
float_count len bits b = nearest (float_units b * 2 ^ bits) (2 ^ len)

-- The count of a float for `weights_of_counts`: a count of at most 2 ^ 62, and at least 1.
unfoldable pub weight_count : ℕ → ℕ → ℕ
weight_count len b = max (float_count len 62 b) 1

-- The counts of a row for `weights_of_counts`.
unfoldable pub weight_counts : List ℕ → List ℕ
weight_counts floats = map (weight_count (row_length floats)) floats

-- The counts of a row, of which the greatest is from 2 ^ (bits - 1) to 2 ^ bits.
unfoldable pub counts_at : ℕ → List ℕ → List ℕ
counts_at bits floats = map (float_count (row_length floats) bits) floats

-- The number of bits for `CategoricalCounts`: 31, or fewer if the counts then add up to 2 ^ 40 or more. With fewer bits
-- they add up to about half of that.
unfoldable pub quick_bits : ℕ → ℕ
quick_bits total = cond (nat_lt total (2 ^ 40)) 31 (31 - (binary_length 128 total - 39))

-- The counts of a row for `CategoricalCounts`.
unfoldable pub quick_counts : List ℕ → List ℕ
quick_counts floats = counts_at (quick_bits (sum (counts_at 31 floats))) floats

-- How the code scales the floats of a row. `most` is the bits of the greatest float. A significand moved up by `lift`
-- bits is below 2 ^ 62. Moved down by `rise` minus the float's exponent, it is the float's count.
pub record IsScale (most bits lift rise : ℕ) : Type 0 where
  pub some : 0 < most
  pub finite : most < 2047 * 2 ^ 52
  pub few : bits ≤ 62
  pub lifted : lift + 2 ≡ count_leading_zeros 64 (significand most)
  pub risen : rise ≡ exponent most + 62 - bits
