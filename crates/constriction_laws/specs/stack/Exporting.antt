-- The words that a stack coder exports after encoding a list of symbols, and states without a binary form.
use Rattle.std.specs.Prelude.{◌≡◌, ℕ, List, Result, Vec, reverse}
use Rattle.constriction_base.specs.Models.{Item, pairs_of}
use Rattle.constriction_base.specs.Steps.{AreWords}
use Rattle.constriction_base.specs.Writing.{IsOneAbove}
use Rattle.constriction_stack.specs.Ans.{AnsState, AnsValue, IsNormalized, empty, exported}
use Rattle.constriction_stack.specs.Binary.{binary_state, binary_words}
use Rattle.constriction_stack.specs.Positions.{AnsPosition, Grows, position_of, sought}
use Rattle.constriction_stack.specs.Symbols.{EncodesAll, DecodesAll}
use Rattle.constriction_laws.specs.Bounds.{AreBoundedBy, IsStackBounded}
use Rattle.constriction_laws.specs.Outcomes.{ReturnsSymbols, ReturnsSymbolsAnd, ReturnsSymbolsWithOne, HasImpossibleItem, Reasons}
use Rattle.constriction_laws.specs.declared.errors.RoundTripError.{RoundTripError}

-- Encodes of the items onto the old state lead to a state with these words.
abbrev pub ExportsAll : {S : Type 0} → ℕ → ℕ → List (Item S) → AnsState → List ℕ → Type 0
ExportsAll w s items old words = (state : AnsState) × EncodesAll w s items old state × (words ≡ exported w state)

-- No import of words in binary form leads to a state from which decodes of the items lead to the state `new`.
abbrev pub ComesFromNoWords : {S : Type 0} → ℕ → ℕ → List (Item S) → AnsState → Type 0
ComesFromNoWords w s items new = (words : List ℕ) → AreWords w words → DecodesAll w s items (binary_state w s words) new → ⊥

-- Encodes of the items lead from this state to one that has no binary form.
abbrev pub LeadsToNoBinary : {S : Type 0} → ℕ → ℕ → List (Item S) → AnsState → Type 0
LeadsToNoBinary w s items old = (last : AnsState) × EncodesAll w s items old last × ((m : ℕ) → IsOneAbove w m last.head → ⊥)

-- ---- round trips

-- The words are the binary form of a state to which encodes of the items lead.
abbrev pub ExportsBinary : {S : Type 0} → ℕ → ℕ → List (Item S) → AnsState → List ℕ → Type 0
ExportsBinary w s items old words = (last : AnsState) × (m : ℕ) × EncodesAll w s items old last
    × IsOneAbove w m last.head × (words ≡ binary_words w m last)

-- Why the binary form of items wasn't exported.
abbrev pub NoBinary : {S : Type 0} → ℕ → ℕ → List (Item S) → AnsState → RoundTripError → Type 0
NoBinary w s items old e =
    Reasons (HasImpossibleItem items) ⊥
    (ComesFromNoWords w s items old × (IsNormalized w s old → LeadsToNoBinary w s (reverse items) old)) (λ taken. ⊥) e

-- Encodes of symbols, each under its own model, from the last to the first.
abbrev pub EncodesPairs : {S M : Type 0} → ℕ → ℕ → ℕ → (M → List (S × ℕ × ℕ)) → List S → List M → AnsState → AnsState
    → Type 0
EncodesPairs w s precision table symbols models old new =
    EncodesAll w s (reverse (pairs_of precision table symbols models)) old new

-- A call undid the encodes of some symbols: it returned them, and the coder is as before the encodes.
abbrev pub UndoesEncodes : {S M A E : Type 0} → ℕ → ℕ → ℕ → (M → List (S × ℕ × ℕ)) → List M → AnsState
    → Result (Vec S A) E → AnsState → Type 0
UndoesEncodes {S} w s precision table models old result new =
    (symbols : List S) (before : AnsState) → EncodesPairs w s precision table symbols models before old
    → ReturnsSymbolsAnd models symbols result (new ≡ before)

-- A call returned the symbols whose encodes led to this valid state.
abbrev pub ReturnsEncoded : {S M A E : Type 0} → ℕ → ℕ → ℕ → (M → List (S × ℕ × ℕ)) → List M → AnsState
    → Result (Vec S A) E → Type 0
ReturnsEncoded {S} w s precision table models state result =
    (symbols : List S) (before : AnsState) → IsNormalized w s state
    → EncodesPairs w s precision table symbols models before state → ReturnsSymbols models symbols result

-- A call returned the symbols whose encodes led to a state, if the state's position is this one, and the coder has
-- grown from there.
abbrev pub ReturnsBehind : {S M A E : Type 0} → ℕ → ℕ → ℕ → (M → List (S × ℕ × ℕ)) → List M → AnsPosition → AnsState
    → Result (Vec S A) E → Type 0
ReturnsBehind {S} w s precision table models position state result = (symbols : List S) (old there : AnsState)
    → EncodesPairs w s precision table symbols models old there → position ≡ position_of there → Grows there state
    → ReturnsSymbols models symbols result

-- Decodes of the items lead from this position of a coder to a state.
abbrev pub HoldsBehind : {S : Type 0} → ℕ → ℕ → AnsPosition → AnsState → List (Item S) → Type 0
HoldsBehind w s position state items = (last : AnsState) × DecodesAll w s items (sought position state) last

-- A position that was recorded as a number of words and a head.
abbrev pub recorded : {Head : Type 0} → (Head → ℕ) → ℕ × Head → AnsPosition
recorded number position = record { held = position.0; head = number position.1 }

-- A call returned the symbols if the words are those of their encodes from an empty coder.
abbrev pub ReturnsExported : {S M A E : Type 0} → ℕ → ℕ → ℕ → (M → List (S × ℕ × ℕ)) → List M → List ℕ → Result (Vec S A) E
    → List S → AnsState → Type 0
ReturnsExported w s precision table models words result symbols state =
    EncodesPairs w s precision table symbols models empty state → words ≡ exported w state
    → ReturnsSymbols models symbols result

-- A call undid an export of some symbols onto a valid state: it returned the symbols, and a coder in that state.
abbrev pub UndoesExport : {S M A B E : Type 0} → ℕ → ℕ → ℕ → (M → List (S × ℕ × ℕ)) → List M → List ℕ
    → Result (Vec S A × AnsValue B) E → Type 0
UndoesExport {S} w s precision table models words result = (symbols : List S) (old : AnsState) → IsNormalized w s old
    → ExportsAll w s (reverse (pairs_of precision table symbols models)) old words
    → ReturnsSymbolsWithOne models symbols result (λ coder. coder.state ≡ old)

-- Encodes of symbols, each under its own model, from the last to the first, lead from one coder to another.
abbrev pub PushesPairs : {S M B : Type 0} → ℕ → ℕ → ℕ → (M → List (S × ℕ × ℕ)) → List S → List M → AnsValue B
    → AnsValue B → Type 0
PushesPairs w s precision table symbols models old new =
    EncodesPairs w s precision table symbols models old.state new.state

-- These words of a coder that started empty are bounded by the symbols that it encoded, each under its own model.
abbrev pub BoundsPairs : {S M W : Type 0} → ℕ → ℕ → ℕ → (M → List (S × ℕ × ℕ)) → List S → List M → List W → Type 0
BoundsPairs w s precision table symbols models words =
    AreBoundedBy (IsStackBounded w s) (reverse (pairs_of precision table symbols models)) words
