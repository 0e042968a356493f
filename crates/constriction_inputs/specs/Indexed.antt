-- Models given as tables of weights, and the index of a table for each symbol.
use Rattle.std.specs.Prelude.{◌≡◌, ℕ, ◌*◌, ◌/◌, ◌<◌, List, length, map}
use Rattle.std.specs.List.{AllByRecursion}
use Rattle.constriction_base.specs.Models.{Item, pairs_of}
use Rattle.constriction_base.specs.Tables.{table_of}
use Rattle.constriction_inputs.specs.Coded.{Coded}
use Rattle.constriction_inputs.specs.Mixtures.{row_at_index}
use Rattle.constriction_inputs.specs.Rows.{AreTotals}

-- The table of each index. It is made of the row at that index, in rows of `width` weights.
abbrev pub index_tables : ℕ → List ℕ → List ℕ → List (List (ℕ × ℕ × ℕ))
index_tables width weights indexes = map (λ index. table_of (row_at_index width index weights)) indexes

-- Each symbol with the table of its index. The indexes are in the order of the symbols.
abbrev pub index_items : ℕ → ℕ → List ℕ → List ℕ → List ℕ → List (Item ℕ)
index_items precision width weights indexes symbols = pairs_of precision (λ table. table) symbols (index_tables width weights indexes)

-- How many rows of `width` weights there are. There is no row of no weights.
abbrev pub row_count : ℕ → List ℕ → ℕ
row_count width weights = length weights / width

-- The weights are rows of `width` weights. There are `count` indexes, and each is the index of a row.
pub record AreIndexed (width : ℕ) (weights indexes : List ℕ) (count : ℕ) : Type 0 where
  pub rows : length weights ≡ width * row_count width weights
  pub counted : length indexes ≡ count
  pub within : AllByRecursion (λ index. index < row_count width weights) indexes

-- The symbols with the tables of their indexes as models, and the requirements on the caller's arguments. Each row has
-- to add up to 2 ^ precision, whether or not a symbol has its index.
abbrev pub by_indexes : ℕ → List ℕ → List ℕ → List ℕ → Coded
by_indexes width weights indexes symbols = record {
  items_at = λ precision. index_items precision width weights indexes symbols;
  lengths_fit = AreIndexed width weights indexes (length symbols);
  intervals_fit = λ precision. Unit {0};
  weights_fit = λ precision. AreTotals precision width (row_count width weights) weights;
}
