-- Cumulative weights: the interval starts of the symbols 0, 1, .., and then the end of the last interval.
use Rattle.std.specs.Prelude.{◌≡◌, ℕ, ◌+◌, ◌*◌, ◌<◌, ◌≤◌, ◌^◌, List, [], ◌∷◌, length, slice_index, cond, nat_eq}

-- The start and the length of a symbol's interval in a table. Both are 0 if the symbol has no entry.
abbrev pub interval_in : List (ℕ × ℕ × ℕ) → ℕ → ℕ × ℕ
interval_in [] symbol = (0, 0)
interval_in (e ∷ es) symbol = cond (nat_eq e.0 symbol) (e.1, e.2) (interval_in es symbol)

-- The list has the starts of the intervals of the symbols below `count`, and then the end of the last interval.
-- Each interval ends where the next one begins.
pub record AreStarts (precision : ℕ) (table : List (ℕ × ℕ × ℕ)) (starts : List ℕ) (count : ℕ) : Type 0 where
  pub len : length starts ≡ count + 1
  pub begins : (k : ℕ) → k < count → (interval_in table k).0 ≡ slice_index starts k
  pub ends : (k : ℕ) → k < count → slice_index starts k + (interval_in table k).1 ≡ slice_index starts (k + 1)
  pub some : (k : ℕ) → k < count → 0 < (interval_in table k).1
  pub within : (k : ℕ) → k ≤ count → slice_index starts k ≤ 2 ^ precision

-- The symbol is below `count`, and its interval holds the quantile.
pub record HoldsQuantile (starts : List ℕ) (count symbol quantile : ℕ) : Type 0 where
  pub known : symbol < count
  pub low : slice_index starts symbol ≤ quantile
  pub high : quantile < slice_index starts (symbol + 1)

-- The symbol is below `count`, and its interval begins at or before the first quantile of the part.
pub record BeginsBefore (starts : List ℕ) (count symbol part : ℕ) : Type 0 where
  pub known : symbol < count
  pub low : slice_index starts symbol ≤ part * 4096
