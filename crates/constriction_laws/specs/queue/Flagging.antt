-- Symbols that a `FlagSwitch` decodes before and after its flag, and the reasons why it stops.
use Rattle.std.specs.Prelude.{◌≡◌, ◌≤◌, ◌<◌, ◌||◌, ℕ, Bool, List, Result, Ok, Err, Vec, IfOk, IfErr, MatchResult}
use Rattle.std.specs.Prelude.{length, if◌then◌else◌}
use Rattle.constriction_base.specs.Models.{Model, Item, items_of}
use Rattle.constriction_base.specs.Steps.{Trace}
use Rattle.constriction_base.specs.declared.backends.reading.Holds as holding
use Rattle.constriction_base.specs.declared.backends.reading.ReadWords as reading
use Rattle.constriction_base.specs.declared.errors.CoderError.{CoderError}
use Rattle.constriction_queue.specs.Decoder.{Decoder, StandsAt}
use Rattle.constriction_queue.specs.Flagged.{DecodesUnder, Switch, flagged, has_flag, next_model}
use Rattle.constriction_queue.specs.Range.{Run}
use Rattle.constriction_queue.specs.declared.decoder.symbols.DecoderFrontendError.{DecoderFrontendError}
use Rattle.constriction_laws.specs.declared.errors.Stopped.{Stopped}
use Rattle.constriction_laws.specs.declared.errors.Stopped.TheVariants as stopped
use Rattle.constriction_laws.specs.queue.Outcomes.{NoList, InvalidWhere, ReadTo}

-- The symbols, each with its model. If `switched` is true, all models are `second`. Otherwise the models are `first` up
-- to and including the flag, and then `second`.
abbrev pub flagged_behind : Bool → ℕ → Model ℕ → Model ℕ → List ℕ → List (Item ℕ)
flagged_behind switched flag first second symbols = if switched then items_of second symbols else flagged flag first second symbols

module _ {W B E Q : Type 0} (number : W → ℕ) (holds : holding.Ghosts B W Q) (reads : reading.Ghosts B W Q E) (w s : ℕ) (first second : Model ℕ) where
  -- A switch returns the symbols `given`, which are at most `amt` symbols.
  pub record ReturnsFlagged (amt : ℕ) (old : Switch B) (given : List ℕ) (mid : Decoder B) (new : Switch B) : Type 0 where
    pub most : length given ≤ amt
    -- The decodes lead to the decoder `mid`. Each decode uses the model that applies at its symbol.
    pub taken : Trace (λ item before after. DecodesUnder number holds reads w s item.model before (Ok item.symbol) after)
        (flagged_behind old.switched old.flag first second given) old.decoder mid
    -- The switch has switched if and only if it had switched before, or the flag is among the symbols.
    pub switched : new.switched ≡ (old.switched || has_flag old.flag given)
    -- If the backend's `is_list` holds, the symbols are decoded from the words up to the decoder's position.
    pub read : holds.is_list → (words : List ℕ) (from : Run) → StandsAt w s words from old.decoder
        → ReadTo w s words (flagged_behind old.switched old.flag first second given) from new.decoder

  -- The reason why the switch stops. `Refused(e)`: it has returned fewer than `amt` symbols, and the next decode fails
  -- with e. `NoMemory`: there is no memory for the symbols, and the decoder stays at `mid`.
  abbrev pub StopsFlagged : ℕ → List ℕ → Decoder B → Stopped (CoderError DecoderFrontendError E) → Switch B → Type 0
  StopsFlagged amt given mid (stopped.Refused e) new =
      (length given < amt) × DecodesUnder number holds reads w s (next_model new.switched first second) mid (Err e) new.decoder
  StopsFlagged amt given mid stopped.NoMemory new = new.decoder ≡ mid

-- ---- a list of decodes

-- Suppose that the old decoder has reached a run in a list of words. If the call succeeds, the returned symbols are
-- decoded from the words at that run, and the new decoder has reached the run after the symbols.
abbrev pub ReadsFlagged : {A E B : Type 0} → ℕ → ℕ → Model ℕ → Model ℕ → Switch B → Result (Vec ℕ A) E → Switch B
    → Type 0
ReadsFlagged w s first second old result new = (words : List ℕ) (from : Run) → StandsAt w s words from old.decoder
    → IfOk result (λ again.
    ReadTo w s words (flagged_behind old.switched old.flag first second again.items) from new.decoder)

-- Suppose that the old decoder has reached a run in a list of words. If the decoder itself refuses a decode, no list of
-- `amt` symbols is decoded from the words at that run.
abbrev pub NoListFlagged : {T F E B : Type 0} → ℕ → ℕ → Model ℕ → Model ℕ → ℕ → Switch B
    → Result T (Stopped (CoderError F E)) → Type 0
NoListFlagged w s first second amt old result = (words : List ℕ) (from : Run) → StandsAt w s words from old.decoder
    → IfErr result (InvalidWhere (NoList w s words (flagged_behind old.switched old.flag first second) amt from))

-- A switch decodes at most `amt` symbols (`ReturnsFlagged`). The call returns these symbols and leaves the decoder
-- after the last decode, or the switch stops with an error (`StopsFlagged`).
abbrev pub StepsFlagged : {W B E Q A : Type 0} → (W → ℕ) → holding.Ghosts B W Q → reading.Ghosts B W Q E → ℕ → ℕ
    → Model ℕ → Model ℕ → ℕ → Switch B → Result (Vec ℕ A) (Stopped (CoderError DecoderFrontendError E)) → Switch B
    → Type 0
StepsFlagged {B = B} number holds reads w s first second amt old result new = (given : List ℕ) × (mid : Decoder B)
    × IfOk result (λ again. again.items ≡ given)
    × ReturnsFlagged number holds reads w s first second amt old given mid new
    × MatchResult result (λ _. new.decoder ≡ mid)
    (λ e. StopsFlagged number holds reads w s first second amt given mid e new)
