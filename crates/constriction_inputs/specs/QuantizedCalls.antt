-- Contracts of two calls that fill a caller's buffers: with intervals of a family's symbols, or with weights from
-- counts.
use Rattle.std.specs.Prelude.{◌≡◌, ◌↔◌, ℕ, ◌<◌, ◌≤◌, ◌^◌, List, Result, OnErr, OnOk, length, map, slice_index}
use Rattle.std.specs.List.{sum, sum_by}
use Rattle.constriction_base.specs.Models.{AreKnown}
use Rattle.constriction_models.specs.Counts.{AllShare, AreShares, AreWeights, ServesLargest, positive}
use Rattle.constriction_inputs.specs.Coded.{AsksFit}
use Rattle.constriction_inputs.specs.Quantized.{AreIntervalsOf, AreScaled, ByFamily, IsRange, by_family, family_items}
use Rattle.constriction_inputs.specs.Refusals.{Asks, Otherwise, OnlyNoMemory, NoRefusal}
use Rattle.constriction_inputs.specs.declared.refusal.Refusal.{Refusal}
use Rattle.constriction_inputs.specs.declared.refusal.Refusal.TheVariants.{ImpossibleSymbol, WrongInterval, WrongLength, WrongWeights}

-- ---- quantizers
-- The errors of making a quantizer. The call checks in this order: there are as many locations as scales, the range has
-- at least two and at most 2 ^ precision symbols, and a family has the caller's number and each scale is above 0.
abbrev pub AsksFamily : {T : Type 0} → ℕ → ByFamily → Result T Refusal → Type 0
AsksFamily precision by = Asks WrongLength (length by.locations ≡ length by.scales)
    (Asks WrongInterval (IsRange precision by.min by.max) (Asks WrongWeights (AreScaled by.family by.scales) (Otherwise NoRefusal)))

-- ---- intervals
-- A caller's two buffers: one for the starts of intervals, and one for their lengths.
pub record IntervalBuffers (P : Type 0) : Type 0 where
  pub lefts : List P
  pub ps : List P

-- Makes one value of the two buffers.
abbrev pub intervals_in : {P : Type 0} → List P → List P → IntervalBuffers P
intervals_in lefts ps = record { lefts = lefts; ps = ps }

-- Each of the two buffers has `count` items.
abbrev pub BuffersFit : {P : Type 0} → ℕ → IntervalBuffers P → Type 0
BuffersFit count kept = (length kept.lefts ≡ count) × (length kept.ps ≡ count)

-- The call writes the interval that each symbol has in the table of its own model. After an error, the buffers are
-- unchanged.
pub record WritesIntervals {P : Type 0} (number : P → ℕ) (precision : ℕ) (by : ByFamily) (symbols : List ℕ) (old new : IntervalBuffers P)
    (answer : Result (Unit {0}) Refusal) : Type 0 where
  pub intervals : OnOk answer (AreIntervalsOf (family_items precision by symbols) (map number new.lefts) (map number new.ps))
  pub asked : Asks WrongLength (BuffersFit (length symbols) old)
      (AsksFit precision (by_family by symbols) (Asks ImpossibleSymbol (AreKnown (family_items precision by symbols)) (Otherwise NoRefusal))) answer
  pub kept : OnErr answer (new ≡ old)

-- ---- weights of counts
-- At least one count is above 0, and at most 2 ^ precision counts are.
abbrev pub AreCounts : ℕ → List ℕ → Type 0
AreCounts precision counts = (0 < sum_by positive counts) × (sum_by positive counts ≤ 2 ^ precision)

-- The call writes weights in proportion to counts. After an error, the buffer is unchanged.
pub record WritesWeightsOfCounts (precision : ℕ) (counts old new : List ℕ) (answer : Result (Unit {0}) Refusal) : Type 0 where
  pub weights : OnOk answer (AreWeights counts (2 ^ precision) new)
  pub total : OnOk answer ((length new ≡ length counts) × (sum new ≡ 2 ^ precision))
  -- Exactly the counts above 0 have a weight above 0.
  pub some : OnOk answer ((k : ℕ) → k < length counts → (0 < slice_index new k) ↔ (0 < slice_index counts k))
  -- If no count above 0 has a share below 1, the weights are the rounded shares. The largest remainders are rounded up
  -- first.
  pub shares : OnOk answer (AllShare counts (2 ^ precision) → AreShares counts (2 ^ precision) new × ServesLargest counts (2 ^ precision) new)
  pub asked : Asks WrongLength (length old ≡ length counts) (Asks WrongWeights (AreCounts precision counts) (Otherwise OnlyNoMemory)) answer
  pub kept : OnErr answer (new ≡ old)
