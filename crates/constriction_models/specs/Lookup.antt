-- The rows of a lookup table, one for each quantile, and tables with and without a symbol above 65535.
use Rattle.std.specs.Prelude.{◌≡◌, ℕ, ◌^◌, ◌<◌, List, length, slice_index_or}
use Rattle.constriction_base.specs.Tables.{Has, Covers, IsTable}
use Rattle.constriction_models.specs.declared.lookup.Row.{Row}

-- If the interval of an entry holds the quantile q, `listed` is the entry's symbol and `row` has the interval.
abbrev pub IsRowAt : {P N : Type 0} → (P → ℕ) → (N → ℕ) → List (ℕ × ℕ × ℕ) → ℕ → Row P N → ℕ → Type 0
IsRowAt number length_of table listed row q = (symbol left p : ℕ) → Has table symbol left p → Covers left p q
    → (listed ≡ symbol) × (number row.left ≡ left) × (length_of row.weight ≡ p)

-- The lists have the symbols and the rows of the first `count` quantiles.
pub record AreRows {P N : Type 0} (number : P → ℕ) (length_of : N → ℕ) (table : List (ℕ × ℕ × ℕ)) (symbols : List ℕ) (rows : List (Row P N)) (count : ℕ) : Type 0 where
  pub symbol_count : length symbols ≡ count
  pub row_count : length rows ≡ count
  pub row_at : (q : ℕ) → q < count → (none : ℕ) (other : Row P N) → IsRowAt number length_of table (slice_index_or symbols q none) (slice_index_or rows q other) q

-- In each table of this precision that has these rows, `found` is the entry whose interval holds the quantile q.
abbrev pub IsEntryAt : {P N : Type 0} → (P → ℕ) → (N → ℕ) → ℕ → List ℕ → List (Row P N) → ℕ → ℕ × P × N → Type 0
IsEntryAt number length_of precision symbols rows q found = (table : List (ℕ × ℕ × ℕ)) → IsTable precision table
    → AreRows number length_of table symbols rows (2 ^ precision)
    → Has table found.0 (number found.1) (length_of found.2) × Covers (number found.1) (length_of found.2) q

-- The table has a symbol above 65535.
abbrev pub HasHighSymbol : List (ℕ × ℕ × ℕ) → Type 0
HasHighSymbol table = (symbol left p : ℕ) × Has table symbol left p × (65535 < symbol)

-- The table has no symbol above 65535.
abbrev pub HasLowSymbols : List (ℕ × ℕ × ℕ) → Type 0
HasLowSymbols table = (symbol left p : ℕ) → Has table symbol left p → symbol < 65536
