-- Symbols that a caller gives as intervals of the numbers below 2 ^ precision, without a table.
use Rattle.std.specs.Prelude.{◌≡◌, ℕ, ◌+◌, ◌-◌, ◌<◌, ◌≤◌, ◌^◌, List, [], ◌∷◌, length, map}
use Rattle.std.specs.List.{AllByRecursion, zip}
use Rattle.constriction_base.specs.Models.{Item, item_of}
use Rattle.constriction_inputs.specs.Coded.{Coded}
use Rattle.constriction_inputs.specs.Weights.{weights_model}

-- The interval of length p that begins at `left` isn't empty, and ends at or below 2 ^ precision.
pub record IsIntervalWithin (precision left p : ℕ) : Type 0 where
  pub not_empty : 0 < p
  pub inside : left + p ≤ 2 ^ precision

-- The row of three weights for an interval: the weight below it, its own weight (symbol 1), and the weight above it.
abbrev pub interval_weights : ℕ → ℕ → ℕ → List ℕ
interval_weights precision left p = left ∷ p ∷ (2 ^ precision - (left + p)) ∷ []

-- For each interval, the symbol 1 with a model in which symbol 1 has the interval.
abbrev pub interval_items : ℕ → List ℕ → List ℕ → List (Item ℕ)
interval_items precision lefts ps =
    map (λ (pair : ℕ × ℕ). item_of (weights_model precision (interval_weights precision pair.0 pair.1)) 1) (zip lefts ps)

-- Each start and its length make an interval of the numbers below 2 ^ precision.
abbrev pub AreIntervals : ℕ → List ℕ → List ℕ → Type 0
AreIntervals precision lefts ps = AllByRecursion (λ (pair : ℕ × ℕ). IsIntervalWithin precision pair.0 pair.1) (zip lefts ps)

-- A caller's intervals, given by their starts and lengths, and the requirements on them.
abbrev pub as_intervals : List ℕ → List ℕ → Coded
as_intervals lefts ps = record {
  items_at = λ precision. interval_items precision lefts ps;
  lengths_fit = length lefts ≡ length ps;
  intervals_fit = λ precision. AreIntervals precision lefts ps;
  weights_fit = λ precision. Unit {0};
}
