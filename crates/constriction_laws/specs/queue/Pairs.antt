-- The outcomes of round trips with the range coder, in which each symbol has its own model.
use Rattle.std.specs.Prelude.{◌≡◌, ℕ, ◌/◌, Bool, IsTrue, List, ◌++◌, Result, Vec, IfOk, length, map}
use Rattle.constriction_base.specs.Models.{Item, pairs_of}
use Rattle.constriction_queue.specs.Decoder.{Decoder, StandsAt}
use Rattle.constriction_queue.specs.Encoder.{Encoder, run_by}
use Rattle.constriction_queue.specs.Range.{Run, initial}
use Rattle.constriction_queue.specs.States.{IsPosition, lower_of, range_of}
use Rattle.constriction_queue.specs.declared.state.RangeCoderState.{RangeCoderState}
use Rattle.constriction_queue.specs.Symbols.{FindsAll, NarrowsAll}
use Rattle.constriction_laws.specs.Bounds.{AreBoundedBy, IsRangeBounded}
use Rattle.constriction_laws.specs.Outcomes.{ReturnsSymbols, ReturnsSymbolsAnd, ReturnsSymbolsWith, ReturnsSymbolsWithOne}
use Rattle.constriction_laws.specs.queue.Concatenated.{DelimitsItems}
use Rattle.constriction_laws.specs.queue.Outcomes.{NoList, LieWithin, NoListAt, ReadTo, SealsAll}
use Rattle.constriction_laws.specs.declared.queue.concatenated.DecodeError.{DecodeError}

-- The items of symbols, each under its own model.
abbrev pub pairs_by : {S M : Type 0} → ℕ → (M → List (S × ℕ × ℕ)) → List M → List S → List (Item S)
pairs_by precision table models symbols = pairs_of precision table symbols models

-- Encodes of the items lead from the run of one encoder to that of another.
abbrev pub NarrowsBy : {S B : Type 0} → ℕ → ℕ → List (Item S) → Encoder B → Encoder B → Type 0
NarrowsBy w s items old new = NarrowsAll w s items (run_by w s old) (run_by w s new)

-- The run of the encoder is that of the items.
abbrev pub HasEncoded : {S B : Type 0} → ℕ → ℕ → List (Item S) → Encoder B → Type 0
HasEncoded w s items encoder = NarrowsAll w s items (initial s) (run_by w s encoder)

-- The words hold these items from a run on.
abbrev pub HoldFrom : {W S : Type 0} → (W → ℕ) → ℕ → ℕ → List W → Run → List (Item S) → Type 0
HoldFrom number w s words there items = (last : Run) × FindsAll w s (map number words) items there last

-- The words hold no list of as many symbols as there are models.
abbrev pub NoPairs : {S M : Type 0} → ℕ → ℕ → ℕ → (M → List (S × ℕ × ℕ)) → List ℕ → List M → Type 0
NoPairs w s precision table words models =
    NoList w s words (λ symbols. pairs_of precision table symbols models) (length models) (initial s)

-- The position is recorded as the number of words before it and an interval; it is that of this run.
abbrev pub IsRecorded : {Word State WordNonZero StateNonZero : Type 0} {word_bits : _} {word : _} {state_bits : _} {state : _} → ℕ → Run
    → ℕ × RangeCoderState Word State WordNonZero StateNonZero word_bits word state_bits state → Type 0
IsRecorded s there position = IsPosition s there position.0 (lower_of position.1) (range_of position.1)

-- Decoding as many symbols as there are models from the position fails with this error.
abbrev pub NoPairsAt : {S M Word State WordNonZero StateNonZero : Type 0} {word_bits : _} {word : _} {state_bits : _} {state : _} → ℕ → ℕ → ℕ
    → (M → List (S × ℕ × ℕ)) → List ℕ → List M → ℕ × RangeCoderState Word State WordNonZero StateNonZero word_bits word state_bits state
    → DecodeError → Type 0
NoPairsAt w s precision table words models position e =
    NoListAt w s words (λ symbols. pairs_of precision table symbols models) (length models)
    position.0 (lower_of position.1) (range_of position.1) e

-- If the position is that of a run, and the words hold symbols from this run on, one for each model, a successful call
-- returns these symbols.
abbrev pub ReturnsFrom : {S M A E Word State WordNonZero StateNonZero : Type 0} {word_bits : _} {word : _} {state_bits : _} {state : _} → ℕ → ℕ → ℕ
    → (M → List (S × ℕ × ℕ)) → List ℕ → List M → ℕ × RangeCoderState Word State WordNonZero StateNonZero word_bits word state_bits state
    → Result (Vec S A) E → Type 0
ReturnsFrom {S} w s precision table words models position result =
    (symbols : List S) (there last : Run) → IsRecorded s there position
    → FindsAll w s words (pairs_of precision table symbols models) there last → ReturnsSymbols models symbols result

-- The encoder is as a new one.
abbrev pub IsAsNew : {B : Type 0} → ℕ → ℕ → Encoder B → Type 0
IsAsNew w s encoder = run_by w s encoder ≡ initial s

-- The words are the sealed words of the symbols, each under its own model, behind those of the encoder.
abbrev pub SealsPairs : {S M B : Type 0} → ℕ → ℕ → ℕ → (M → List (S × ℕ × ℕ)) → List S → List M → Encoder B → List ℕ
    → Type 0
SealsPairs w s precision table symbols models encoder words =
    SealsAll w s (pairs_of precision table symbols models) (run_by w s encoder) words

-- These words of a new encoder are bounded by the symbols that it encoded, each under its own model.
abbrev pub BoundsSealed : {S M W : Type 0} → ℕ → ℕ → ℕ → (M → List (S × ℕ × ℕ)) → List S → List M → List W → Type 0
BoundsSealed w s precision table symbols models words =
    AreBoundedBy (IsRangeBounded w s 2) (pairs_of precision table symbols models) words

-- The items that a call decoded are read from the words at which the decoder stood, up to where it stands.
abbrev pub ReadsOnward : {S M A E B : Type 0} → ℕ → ℕ → ℕ → (M → List (S × ℕ × ℕ)) → List M → Decoder B
    → Result (Vec S A) E → Decoder B → Type 0
ReadsOnward w s precision table models old result new = (words : List ℕ) (there : Run) → StandsAt w s words there old
    → IfOk result (λ again. ReadTo w s words (pairs_of precision table again.items models) there new)

-- If the words hold symbols where the old decoder stands, one for each model, a successful call returns these symbols,
-- and the new decoder stands behind them.
abbrev pub ReturnsFound : {S M A E B : Type 0} → ℕ → ℕ → ℕ → (M → List (S × ℕ × ℕ)) → List M → Decoder B
    → Result (Vec S A) E → Decoder B → Type 0
ReturnsFound {S} w s precision table models old result new =
    (words : List ℕ) (symbols : List S) (there last : Run) → StandsAt w s words there old
    → FindsAll w s words (pairs_of precision table symbols models) there last
    → ReturnsSymbolsAnd models symbols result (StandsAt w s words last new)

-- A successful call decodes words by a new decoder, and returns the symbols and whether the words may have ended. In
-- each field, there are as many symbols as models. No field says that the call succeeds.
pub record ReturnsSymbolsOf {S M A E : Type 0} (w s precision : ℕ) (table : M → List (S × ℕ × ℕ)) (words : List ℕ)
    (models : List M) (result : Result (Vec S A × Bool) E) : Type 0 where
  -- If a new decoder finds symbols in the words, a successful call returns these symbols.
  pub back : (symbols : List S) (last : Run)
      → FindsAll w s words (pairs_of precision table symbols models) (initial s) last
      → ReturnsSymbolsWith models symbols result
  -- If the words are the sealed words of items, a successful call returns the items' symbols, and that the words may
  -- have ended.
  pub sealed : (symbols : List S) → SealsAll w s (pairs_of precision table symbols models) (initial s) words
      → ReturnsSymbolsWithOne models symbols result IsTrue
  -- If a state is two words wide and the words begin with the sealed words of items, a successful call returns the
  -- items' symbols.
  pub followed : (symbols : List S) (own rest : List ℕ) → s / w ≡ 2
      → SealsAll w s (pairs_of precision table symbols models) (initial s) own → words ≡ own ++ rest
      → ReturnsSymbolsWith models symbols result
  -- If the words begin with self-delimiting words of items, a successful call returns the items' symbols.
  pub delimited : (symbols : List S) (own rest : List ℕ)
      → DelimitsItems w s (pairs_of precision table symbols models) own → words ≡ own ++ rest
      → ReturnsSymbolsWith models symbols result
  -- If the words lie within the run of items, a successful call returns the items' symbols.
  pub lying : (symbols : List S) → length symbols ≡ length models
      → LieWithin w s words (pairs_of precision table symbols models)
      → IfOk result (λ back. back.0.items ≡ symbols)
