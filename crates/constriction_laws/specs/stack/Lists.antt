-- Shared premises and conclusions of the laws about lists of encodes and decodes of the stack coder. The parameter
-- `holds` is what a law concludes from the premises.
use Rattle.std.specs.Prelude.{◌≡◌, ◌⊎◌, ℕ, ◌%◌, ◌^◌, List, ◌∷◌, reverse}
use Rattle.constriction_base.specs.Models.{Item, Model, IsModel, AreModels, models}
use Rattle.constriction_base.specs.Steps.{Step, Trace, AreSteps, AreWords, IsSizes}
use Rattle.constriction_base.specs.Tables.{IsTable}
use Rattle.constriction_base.specs.Writing.{IsOneAbove}
use Rattle.constriction_stack.specs.Ans.{AnsState, AnsValue, IsPush, IsNormalized, empty, filled}
use Rattle.constriction_stack.specs.Binary.{binary_state, binary_words}
use Rattle.constriction_stack.specs.Positions.{position_of, sought}
use Rattle.constriction_stack.specs.Symbols.{Decodes, DecodesAll, EncodesAll}

-- Behind encodes of items under lawful models this holds.
abbrev pub AfterEncodes : {S : Type 0} → ℕ → ℕ → List (Item S) → AnsState → AnsState → Type 0 → Type 0
AfterEncodes w s items old new holds = IsSizes w s → AreModels w items → EncodesAll w s items old new → holds

-- Behind encodes of two lists, one after the other, this holds.
abbrev pub AfterTwo : {S : Type 0} → ℕ → ℕ → List (Item S) → List (Item S) → AnsState → AnsState → AnsState → Type 0
    → Type 0
AfterTwo w s before since start middle last holds =
    EncodesAll w s before start middle → EncodesAll w s since middle last → holds

-- Behind a decode under a lawful model, from a valid state, this holds.
abbrev pub AfterDecode : {S : Type 0} → ℕ → ℕ → Model S → S → AnsState → AnsState → Type 0 → Type 0
AfterDecode w s model symbol old new holds =
    IsSizes w s → IsModel w model → IsNormalized w s old → Decodes w s model symbol old new → holds

-- Behind decodes of items under lawful models, from a valid state, this holds.
abbrev pub AfterDecodes : {S : Type 0} → ℕ → ℕ → List (Item S) → AnsState → AnsState → Type 0 → Type 0
AfterDecodes w s items old new holds =
    IsSizes w s → AreModels w items → IsNormalized w s old → DecodesAll w s items old new → holds

-- From a valid state, with lawful steps, this holds.
abbrev pub FromNormalized : ℕ → ℕ → List Step → AnsState → Type 0 → Type 0
FromNormalized w s steps old holds = IsSizes w s → AreSteps w steps → IsNormalized w s old → holds

-- If others have the models of the items in reverse order, they are the items in reverse order, and this holds.
abbrev pub AreReversed : {S : Type 0} → List (Item S) → List (Item S) → Type 0 → Type 0
AreReversed items others holds = models others ≡ reverse (models items) → (others ≡ reverse items) × holds

-- Decodes of the items lead from an import of the words to this state.
abbrev pub DecodesWords : {S : Type 0} → ℕ → ℕ → List ℕ → List (Item S) → AnsState → Type 0
DecodesWords w s words items new = DecodesAll w s items (filled w s 0 words) new

-- The same from an import of words in binary form.
abbrev pub DecodesBinary : {S : Type 0} → ℕ → ℕ → List ℕ → List (Item S) → AnsState → Type 0
DecodesBinary w s words items new = DecodesAll w s items (binary_state w s words) new

-- Decodes of the items lead from an import of the words to a state.
abbrev pub HoldsItems : {S : Type 0} → ℕ → ℕ → List ℕ → List (Item S) → Type 0
HoldsItems w s words items = (last : AnsState) × DecodesWords w s words items last

-- Decodes of the items lead from the position of the middle state in a later one to this state.
abbrev pub DecodesBack : {S : Type 0} → ℕ → ℕ → List (Item S) → AnsState → AnsState → AnsState → Type 0
DecodesBack w s items middle last new = DecodesAll w s items (sought (position_of middle) last) new

-- The words are the binary form of this state.
abbrev pub IsBinaryForm : ℕ → AnsState → List ℕ → Type 0
IsBinaryForm w state words = (m : ℕ) × IsOneAbove w m state.head × (binary_words w m state ≡ words)

-- Where the items are decoded from words in binary form, and encoded again in reverse order, this holds.
abbrev pub AfterWayBack : {S : Type 0} → ℕ → ℕ → List ℕ → List (Item S) → AnsState → AnsState → Type 0 → Type 0
AfterWayBack w s words items state last holds =
    IsSizes w s → AreWords w words → AreModels w items → DecodesBinary w s words items state
    → EncodesAll w s (reverse items) state last → holds

-- The state of this head above other words.
abbrev pub with_words : AnsState → List ℕ → AnsState
with_words state words = record { head = state.head; words = words }

-- Decodes of the items, from an import of the words, leave this coder.
abbrev pub LeavesOfWords : {S B : Type 0} → ℕ → ℕ → List ℕ → List (Item S) → AnsValue B → Type 0
LeavesOfWords w s words items coder = DecodesWords w s words items coder.state

-- The same from an import of words in binary form.
abbrev pub LeavesOfBinary : {S B : Type 0} → ℕ → ℕ → List ℕ → List (Item S) → AnsValue B → Type 0
LeavesOfBinary w s words items coder = DecodesBinary w s words items coder.state

-- Behind encodes of items from an empty coder this holds.
abbrev pub FromEmpty : {S : Type 0} → ℕ → ℕ → List (Item S) → AnsState → Type 0 → Type 0
FromEmpty w s items state holds = IsSizes w s → EncodesAll w s items empty state → holds

-- Others that are decoded from this state, under the models of the items in reverse order, are the items in reverse
-- order, and lead to the state before them.
abbrev pub IsOneWayBack : {S : Type 0} → ℕ → ℕ → List (Item S) → List (Item S) → AnsState → AnsState → AnsState → Type 0
IsOneWayBack w s items others new last old = DecodesAll w s others new last → AreReversed items others (last ≡ old)

-- The table of the model is lawful.
abbrev pub HasTable : {S : Type 0} → Model S → Type 0
HasTable model = IsTable model.precision model.table

-- The words are as before, or the low word of the head stands before them.
abbrev pub AddsOneAtMost : ℕ → AnsState → AnsState → Type 0
AddsOneAtMost w old new = (new.words ≡ old.words) ⊎ (new.words ≡ old.head % 2 ^ w ∷ old.words)

-- Pushes of the steps, one after the other, lead from the old state to the new one.
abbrev pub Pushes : ℕ → ℕ → List Step → AnsState → AnsState → Type 0
Pushes w s steps old new = Trace (IsPush w s) steps old new
