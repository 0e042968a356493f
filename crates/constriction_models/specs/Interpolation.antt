-- Distribution functions given by a table of values, with linear interpolation between the values.
use Rattle.std.specs.Prelude.{◌≡◌, ℕ, ◌+◌, ◌-◌, ◌*◌, ◌/◌, ◌%◌, List, [], ◌∷◌, length, slice_index, Bool, true, ◌&&◌, nat_le, nat_lt, cond, ℤ, pos, negsuc, ◌+ℤ◌, ◌-ℤ◌}

-- No number of the list is below the number before it, and the first number isn't below `low`.
unfoldable pub rises_from : ℕ → List ℕ → Bool
rises_from low [] = true
rises_from low (x ∷ xs) = nat_le low x && rises_from x xs

-- The 2049 values at the ends of 2048 steps never fall, and the last is 2 ^ 32.
pub record AreValues (values : List ℕ) : Type 0 where
  pub len : length values ≡ 2049
  pub rises : rises_from 0 values ≡ true
  pub last : slice_index values 2048 ≡ 4294967296

-- The value `part` 65536ths of the way from the k-th value to the next.
unfoldable pub interpolated : List ℕ → ℕ → ℕ → ℕ
interpolated values k part = slice_index values k + (slice_index values (k + 1) - slice_index values k) * part / 65536

-- The value at a place, which is a number of 65536ths of a step.
unfoldable pub value_at : List ℕ → ℕ → ℕ
value_at values place = interpolated values (place / 65536) (place % 65536)

-- The value at the distance `far` above the beginning of a table of width `wide`, and 2 ^ 32 from the table's end on.
-- The distance times rate / 2 ^ 36 is in 65536ths of a step.
unfoldable pub value_above : List ℕ → ℕ → ℕ → ℕ → ℕ
value_above values wide rate far = cond (nat_lt far wide) (value_at values (far * rate / 68719476736)) 4294967296

-- The value at a signed distance from the beginning of the table. Below the beginning, the value is 0.
unfoldable pub value_beyond : List ℕ → ℕ → ℕ → ℤ → ℕ
value_beyond values wide rate (pos far) = value_above values wide rate far
value_beyond values wide rate (negsuc _) = 0

-- The value at a place, for a table of width `wide` around `middle`.
unfoldable pub interpolate : List ℕ → ℕ → ℕ → ℤ → ℤ → ℕ
interpolate values wide rate middle place = value_beyond values wide rate (place -ℤ middle +ℤ pos (wide / 2))

-- The distribution function with a location and a scale, both in multiples of 2 ^ -16. The table is `width` scales
-- wide.
unfoldable pub scaled : List ℕ → ℕ → ℤ → ℕ → ℤ → ℕ
scaled values width location scale = interpolate values (width * scale) (9223372036854775808 / width / scale) location
