-- Hints: symbols at which the search for a quantile's interval begins or ends, and their rows.
use Rattle.std.specs.Prelude.{◌≡◌, ℕ, ◌+◌, ◌*◌, ◌<◌, ◌≤◌, List, length, slice_index, slice_index_or}
use Rattle.constriction_base.specs.Tables.{end_of, weights_between}
use Rattle.constriction_base.specs.declared.weights.rows.Row.{Row}

-- The interval of `symbol` holds the number `place` or ends at it.
pub record IsHint (starts : List ℕ) (high place symbol : ℕ) : Type 0 where
  pub known : symbol < length starts
  pub from : slice_index starts symbol ≤ place
  pub to : place ≤ end_of starts symbol high

-- The hint at each index k is a hint for the place k * width, and the hints never fall.
pub record AreHints (starts : List ℕ) (high width : ℕ) (hints : List ℕ) : Type 0 where
  pub each : (k : ℕ) → k < length hints → IsHint starts high (k * width) (slice_index hints k)
  pub rising : (k : ℕ) → k + 1 < length hints → slice_index hints k ≤ slice_index hints (k + 1)

-- The row has the length of its symbol's interval.
abbrev pub IsBucketRow : {P : Type 0} → (P → ℕ) → List ℕ → ℕ → Row P → Type 0
IsBucketRow number starts high row = number row.weight ≡ slice_index (weights_between starts high) row.symbol

-- Each row of the list has the length of its symbol's interval.
abbrev pub AreBucketRows : {P : Type 0} → (P → ℕ) → List ℕ → ℕ → List (Row P) → Type 0
AreBucketRows number starts high rows = (k : ℕ) (other : Row _) → k < length rows → IsBucketRow number starts high (slice_index_or rows k other)
