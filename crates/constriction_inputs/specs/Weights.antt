-- One model for all symbols, given as a list of weights.
use Rattle.std.specs.Prelude.{◌≡◌, ℕ, ◌^◌, ◌≤◌, List, length, sum}
use Rattle.constriction_base.specs.Tables.{table_of}
use Rattle.constriction_base.specs.Models.{Model, items_of}
use Rattle.constriction_inputs.specs.Coded.{Coded}

-- The model of these weights at a precision: symbol 0 has the first weight, symbol 1 the next, and so on.
abbrev pub weights_model : ℕ → List ℕ → Model ℕ
weights_model precision weights = record { precision = precision; table = table_of weights }

-- The weights add up to 2 ^ precision.
abbrev pub IsTotal : ℕ → List ℕ → Type 0
IsTotal precision weights = sum weights ≡ 2 ^ precision

-- The symbols with one table of weights as the model of all, and the requirements on the caller's arguments.
abbrev pub by_weights : List ℕ → List ℕ → Coded
by_weights weights symbols = record {
  items_at = λ precision. items_of (weights_model precision weights) symbols;
  lengths_fit = Unit {0};
  intervals_fit = λ precision. Unit {0};
  weights_fit = λ precision. IsTotal precision weights;
}

-- Symbols of a type with `many` values, under the weights of one table. `lengths_fit` requires that each index of the
-- table is below `many`.
abbrev pub narrow_by_weights : ℕ → List ℕ → List ℕ → Coded
narrow_by_weights many weights symbols = record {
  items_at = λ precision. items_of (weights_model precision weights) symbols;
  lengths_fit = length weights ≤ many;
  intervals_fit = λ precision. Unit {0};
  weights_fit = λ precision. IsTotal precision weights;
}
