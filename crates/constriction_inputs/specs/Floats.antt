-- Contracts of two calls that fill a caller's buffer with weights or counts in proportion to floats.
use Rattle.std.specs.Prelude.{◌≡◌, ℕ, ◌*◌, ◌/◌, ◌<◌, ◌≤◌, ◌^◌, true, List, Result, OnErr, OnOk, length}
use Rattle.std.specs.List.{flat_map, list_all, range_with_len}
use Rattle.constriction_models.specs.Floats.{greatest_units, is_probability, quick_counts, weight_counts}
use Rattle.constriction_inputs.specs.Counts.{AreCountRows}
use Rattle.constriction_inputs.specs.Mixtures.{row_at_index}
use Rattle.constriction_inputs.specs.QuantizedCalls.{WritesWeightsOfCounts}
use Rattle.constriction_inputs.specs.Refusals.{Asks, Otherwise, OnlyNoMemory, NoRefusal}
use Rattle.constriction_inputs.specs.declared.refusal.Refusal.{Refusal}
use Rattle.constriction_inputs.specs.declared.refusal.Refusal.TheVariants.{WrongLength, WrongWeights}

-- All floats are finite and at least 0, and one is above 0.
abbrev pub AreProbabilities : List ℕ → Type 0
AreProbabilities floats = (list_all is_probability floats ≡ true) × (0 < greatest_units floats)

-- ---- weights
-- The call writes the weights of the floats' counts. After an error, the buffer is unchanged.
pub record WritesWeightsOfFloats (precision : ℕ) (floats old new : List ℕ) (answer : Result (Unit {0}) Refusal) : Type 0 where
  pub weights : OnOk answer (WritesWeightsOfCounts precision (weight_counts floats) old new answer)
  pub asked : Asks WrongLength (length old ≡ length floats)
      (Asks WrongWeights (AreProbabilities floats × (length floats ≤ 2 ^ precision)) (Otherwise OnlyNoMemory)) answer
  pub kept : OnErr answer (new ≡ old)

-- ---- rows of counts
-- A row of floats has counts that make a table.
abbrev pub IsFloatRow : ℕ → List ℕ → Type 0
IsFloatRow precision row = (length row < 2 ^ precision) × AreProbabilities row

-- Each of the first `number` rows of `width` floats has such counts.
abbrev pub AreFloatRows : ℕ → ℕ → ℕ → List ℕ → Type 0
AreFloatRows precision width number floats = (place : ℕ) → place < number → IsFloatRow precision (row_at_index width place floats)

-- The counts of the first `number` rows of `width` floats, one row after another.
abbrev pub counts_of_rows : ℕ → ℕ → List ℕ → List ℕ
counts_of_rows width number floats = flat_map (λ place. quick_counts (row_at_index width place floats)) (range_with_len 0 number)

-- The call writes the counts of all rows. After an error, the buffer is unchanged.
pub record WritesCountsOfFloats (precision width : ℕ) (floats old new : List ℕ) (answer : Result (Unit {0}) Refusal) : Type 0 where
  pub counts : OnOk answer (new ≡ counts_of_rows width (length floats / width) floats)
  -- The counts of each row have a table.
  pub tables : OnOk answer (AreCountRows precision width (length floats / width) new)
  pub asked : Asks WrongLength ((length old ≡ length floats) × (length floats ≡ width * (length floats / width)))
      (Asks WrongWeights (AreFloatRows precision width (length floats / width) floats) (Otherwise NoRefusal)) answer
  pub kept : OnErr answer (new ≡ old)
