-- Rows of symbols: intervals with the reciprocals of their lengths, in the order of the symbols.
use Rattle.std.specs.Prelude.{◌≡◌, ℕ, ◌<◌, List, length, slice_index, slice_index_or}
use Rattle.constriction_words.specs.Reciprocals.{IsReciprocalOf}
use Rattle.constriction_base.specs.Tables.{weights_between}
use Rattle.constriction_base.specs.declared.weights.rows.SymbolRow.{SymbolRow}

-- The row has the start and the length of the interval of `symbol`, and the reciprocal of this length, if it is above 0.
pub record IsSymbolRow {P : Type 0} (number : P → ℕ) (starts : List ℕ) (high symbol : ℕ) (row : SymbolRow P) : Type 0 where
  pub left : number row.left ≡ slice_index starts symbol
  pub weight : number row.weight ≡ slice_index (weights_between starts high) symbol
  pub reciprocal : 0 < number row.weight → IsReciprocalOf row.reciprocal (number row.weight)

-- The row at each index is that of the symbol of the same number.
abbrev pub AreSymbolRows : {P : Type 0} → (P → ℕ) → List ℕ → ℕ → List (SymbolRow P) → Type 0
AreSymbolRows number starts high rows = (k : ℕ) (other : SymbolRow _) → k < length rows → IsSymbolRow number starts high k (slice_index_or rows k other)
