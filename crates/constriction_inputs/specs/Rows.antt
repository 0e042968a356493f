-- Models given as a row of weights for each symbol, one row after another.
use Rattle.std.specs.Prelude.{◌≡◌, ℕ, zero, suc, ◌*◌, List, [], ◌∷◌, ⊤, length, take, drop}
use Rattle.constriction_base.specs.Tables.{table_of}
use Rattle.constriction_base.specs.Models.{Item, item_of}
use Rattle.constriction_inputs.specs.Coded.{Coded}
use Rattle.constriction_inputs.specs.Weights.{IsTotal, weights_model}

-- The tables of `count` rows of `width` weights.
abbrev pub row_tables : ℕ → ℕ → List ℕ → List (List (ℕ × ℕ × ℕ))
row_tables width zero weights = []
row_tables width (suc count) weights = table_of (take width weights) ∷ row_tables width count (drop width weights)

-- Each symbol with the weights of its own row as its model. The rows are in the order of the symbols.
abbrev pub row_items : ℕ → ℕ → List ℕ → List ℕ → List (Item ℕ)
row_items precision width weights [] = []
row_items precision width weights (symbol ∷ symbols) =
    item_of (weights_model precision (take width weights)) symbol ∷ row_items precision width (drop width weights) symbols

-- Each of the first `count` rows of `width` weights adds up to 2 ^ precision.
abbrev pub AreTotals : ℕ → ℕ → ℕ → List ℕ → Type 0
AreTotals precision width zero weights = ⊤
AreTotals precision width (suc count) weights = IsTotal precision (take width weights) × AreTotals precision width count (drop width weights)

-- The symbols with rows of `width` weights as models, and the requirements on the caller's arguments.
abbrev pub by_rows : ℕ → List ℕ → List ℕ → Coded
by_rows width weights symbols = record {
  items_at = λ precision. row_items precision width weights symbols;
  lengths_fit = length weights ≡ width * length symbols;
  intervals_fit = λ precision. Unit {0};
  weights_fit = λ precision. AreTotals precision width (length symbols) weights;
}
