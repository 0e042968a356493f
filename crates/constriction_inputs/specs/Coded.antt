-- A caller's arguments: symbols to encode or decode, and the numbers that their models are made from.
use Rattle.std.specs.Prelude.{◌≡◌, ℕ, List, Result, length}
use Rattle.constriction_base.specs.Models.{Item, pairs_of}
use Rattle.constriction_inputs.specs.Refusals.{Asks}
use Rattle.constriction_inputs.specs.declared.refusal.Refusal.{Refusal}
use Rattle.constriction_inputs.specs.declared.refusal.Refusal.TheVariants.{WrongInterval, WrongLength, WrongWeights}

-- The symbols with their models, and the requirements on the arguments. Each form of models defines its own value of
-- this type: `by_weights`, `by_rows`, `by_indexes`, `by_counts`, `as_intervals`, `by_family` and `by_mixture`.
pub record Coded : Type 1 where
  -- The symbols with their models, at a precision.
  pub items_at : ℕ → List (Item ℕ)
  -- The lengths of the caller's lists match.
  pub lengths_fit : Type 0
  -- Each interval lies below 2 ^ precision, and a range has at least two and at most 2 ^ precision symbols.
  pub intervals_fit : ℕ → Type 0
  -- Weights add up to 2 ^ precision, rows of counts have tables, a family has the caller's family number, and scales are
  -- above 0. The weights of a mixture add up to at least 1 and at most 2 ^ 32.
  pub weights_fit : ℕ → Type 0

-- The symbols with their models, at a precision.
abbrev pub items : ℕ → Coded → List (Item ℕ)
items precision coded = coded.items_at precision

-- For each list of `count` symbols, the tables are those of the symbols' models, in order.
abbrev pub AreTablesFor : ℕ → (List ℕ → Coded) → ℕ → List (List (ℕ × ℕ × ℕ)) → Type 0
AreTablesFor precision coded count tables =
    (symbols : List ℕ) → length symbols ≡ count → items precision (coded symbols) ≡ pairs_of precision (λ table. table) symbols tables

-- The lengths, the intervals and the weights all meet their requirements.
abbrev pub AreFit : ℕ → Coded → Type 0
AreFit precision coded = coded.lengths_fit × coded.intervals_fit precision × coded.weights_fit precision

-- The call checks lengths, intervals and weights, in this order, and returns the refusal of the first check that fails.
-- If all checks succeed, `others` states the answer.
abbrev pub AsksFit : {T : Type 0} → ℕ → Coded → (Result T Refusal → Type 0) → Result T Refusal → Type 0
AsksFit precision coded others =
    Asks WrongLength coded.lengths_fit (Asks WrongInterval (coded.intervals_fit precision) (Asks WrongWeights (coded.weights_fit precision) others))
