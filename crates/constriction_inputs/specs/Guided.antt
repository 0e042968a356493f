-- What a table keeps beside the caller's weights: a row for each symbol, or guesses of symbols.
use Rattle.std.specs.Prelude.{◌≡◌, ℕ, ◌<◌, ◌≤◌, List, Bool, IsTrue, length, get_or, take, sum_by}
use Rattle.constriction_words.specs.Reciprocals.{IsReciprocalOf}
use Rattle.constriction_inputs.specs.declared.models.guided.Interval.{Interval}
use Rattle.constriction_base.specs.declared.weights.rows.SymbolRow.{SymbolRow}

-- The row has the symbol's weight. If the weight is above 0, the row has the start of the symbol's interval, and if
-- `divides` is true, the weight's reciprocal.
pub record IsRowOfWeight {P : Type 0} (number : P → ℕ) (weights : List P) (divides : Bool) (symbol : ℕ) (row : SymbolRow P) : Type 0 where
  pub weight : number row.weight ≡ number (get_or weights symbol row.weight)
  pub left : 0 < number row.weight → number row.left ≡ sum_by number (take symbol weights)
  pub reciprocal : IsTrue divides → 0 < number row.weight → IsReciprocalOf row.reciprocal (number row.weight)

-- There are no more rows than weights, and the row at each index is that of the symbol of the same number.
pub record AreRowsOfWeights {P : Type 0} (number : P → ℕ) (weights : List P) (divides : Bool) (rows : List (SymbolRow P)) : Type 0 where
  pub within : length rows ≤ length weights
  pub each : (k : ℕ) (other : SymbolRow P) → k < length rows → IsRowOfWeight number weights divides k (get_or rows k other)

-- The symbol is one of the table, `start` is the sum of the weights before it, and `p` is its weight.
pub record IsGuess {P : Type 0} (number : P → ℕ) (weights : List P) (symbol : ℕ) (start p : P) : Type 0 where
  pub within : symbol < length weights
  pub left : number start ≡ sum_by number (take symbol weights)
  pub weight : number p ≡ number (get_or weights symbol p)

-- There are as many intervals as symbols, and at each index stands the interval of the symbol at the same index.
pub record AreGuesses {P : Type 0} (number : P → ℕ) (weights : List P) (intervals : List (Interval P)) (symbols : List ℕ) : Type 0 where
  pub counted : length intervals ≡ length symbols
  pub each : (k symbol : ℕ) (interval : Interval P) → k < length symbols → symbol ≡ get_or symbols k symbol → interval ≡ get_or intervals k interval → IsGuess number weights symbol interval.left interval.weight
