-- Models given as a row of counts for each symbol, one row after another.
use Rattle.std.specs.Prelude.{◌≡◌, ℕ, ◌*◌, ◌<◌, ◌≤◌, List, length, map}
use Rattle.std.specs.List.{range_with_len}
use Rattle.constriction_base.specs.Models.{Item, pairs_of}
use Rattle.constriction_models.specs.Categorical.{MakeCategorical, categorical}
use Rattle.constriction_inputs.specs.Coded.{Coded}
use Rattle.constriction_inputs.specs.Mixtures.{row_at_index}

-- The tables of the first `number` rows of `width` counts.
abbrev pub count_tables : ℕ → ℕ → ℕ → List ℕ → List (List (ℕ × ℕ × ℕ))
count_tables precision width number counts = map (λ place. categorical precision (row_at_index width place counts)) (range_with_len 0 number)

-- Each symbol with the table of its own row. The rows are in the order of the symbols.
abbrev pub count_items : ℕ → ℕ → List ℕ → List ℕ → List (Item ℕ)
count_items precision width counts symbols = pairs_of precision (λ table. table) symbols (count_tables precision width (length symbols) counts)

-- Each of the first `number` rows of `width` counts has a table.
abbrev pub AreCountRows : ℕ → ℕ → ℕ → List ℕ → Type 0
AreCountRows precision width number counts = (place : ℕ) → place < number → MakeCategorical precision (row_at_index width place counts)

-- Counts can have tables at this precision: it is at most 24 bits, and below the number of bits of the coder's
-- probabilities.
abbrev pub IsCountPrecision : ℕ → ℕ → Type 0
IsCountPrecision bits precision = (precision ≤ 24) × (precision < bits)

-- The symbols with rows of `width` counts as models, for probabilities of `bits` bits, and the requirements on the
-- caller's arguments.
abbrev pub by_counts : ℕ → ℕ → List ℕ → List ℕ → Coded
by_counts bits width counts symbols = record {
  items_at = λ precision. count_items precision width counts symbols;
  lengths_fit = length counts ≡ width * length symbols;
  intervals_fit = λ precision. Unit {0};
  weights_fit = λ precision. IsCountPrecision bits precision × AreCountRows precision width (length symbols) counts;
}
