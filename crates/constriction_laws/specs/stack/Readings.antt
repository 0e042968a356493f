-- Imports and decodes of a stack coder in terms of its backend's reads, for backends such as iterators.
use Rattle.std.specs.Prelude.{◌≡◌, ℕ, ◌<◌, ◌^◌, Bool, false, List, Option, Result, Vec, map}
use Rattle.constriction_base.specs.Iterators.{FusedRead}
use Rattle.constriction_base.specs.Steps.{Trace}
use Rattle.constriction_base.specs.Tables.{AtEntry}
use Rattle.constriction_base.specs.Models.{Model, Item}
use Rattle.constriction_stack.specs.Binary.{BinaryFilledBy}
use Rattle.constriction_stack.specs.Imports.{FilledBy, ImportRefused}
use Rattle.constriction_stack.specs.Ans.{AnsState, AnsValue, IsNext, RefillsBy, empty, pop_head}
use Rattle.constriction_laws.specs.Outcomes.{IfItems}
use Rattle.constriction_laws.specs.Readings.{ListsItems, ListsWords}
use Rattle.constriction_laws.specs.stack.Exporting.{ExportsAll, ReturnsExported}
use Rattle.constriction_laws.specs.stack.Lists.{AreReversed, HoldsItems}

-- The state of a coder over a backend whose words the function `words` lists.
abbrev pub state_by_words : {W B : Type 0} → (W → ℕ) → (B → List W) → AnsValue B → AnsState
state_by_words number words coder = record { head = coder.state.head; words = map number (words coder.backend) }

-- A decode of the symbol by reads: its entry holds the head's quantile, and reads refill the head after the pop.
abbrev pub DecodesBy : {S W E B : Type 0} → (W → ℕ) → (B → Result (Option W) E → B → Type 0) → ℕ → ℕ → Model S → S → AnsValue B → AnsValue B → Type 0
DecodesBy number reads w s model symbol old new =
    AtEntry model.precision model.table symbol (λ e. IsNext e old.state × RefillsBy number reads w s (pop_head e old.state) old.backend new.state.head new.backend)

-- Decodes of the items by reads, one after the other.
abbrev pub DecodesAllBy : {S W E B : Type 0} → (W → ℕ) → (B → Result (Option W) E → B → Type 0) → ℕ → ℕ → List (Item S) → AnsValue B → AnsValue B → Type 0
DecodesAllBy number reads w s items old new = Trace (λ item. DecodesBy number reads w s item.model item.symbol) items old new

-- An import by reads from the backend `given` makes a head below 2 ^ s. Decodes of the items then lead to the coder
-- `last`.
abbrev pub DecodesFrom : {S W E B : Type 0} → (W → ℕ) → (B → Result (Option W) E → B → Type 0) → ℕ → ℕ → B → List (Item S) → AnsValue B → Type 0
DecodesFrom {B = B} number reads w s given items last =
    (start : AnsValue B) × FilledBy number reads w s given start.state.head start.backend × (start.state.head < 2 ^ s) × DecodesAllBy number reads w s items start last

-- An import of the binary form by reads from the backend `given` makes a head below 2 ^ s. Decodes of the items then
-- lead to the coder `last`.
abbrev pub DecodesFromBinary : {S W E B : Type 0} → (W → ℕ) → (B → Result (Option W) E → B → Type 0) → ℕ → ℕ → B
    → List (Item S) → AnsValue B → Type 0
DecodesFromBinary {B = B} number reads w s given items last =
    (start : AnsValue B) × BinaryFilledBy number reads w s given start.state.head start.backend
    × (start.state.head < 2 ^ s) × DecodesAllBy number reads w s items start last

-- The function `words` lists the words that reads return. For the backend `given`, an empty coder exports these words
-- after encoding the items.
abbrev pub ListsExport : {S W E B : Type 0} → (W → ℕ) → (B → Result (Option W) E → B → Type 0) → (B → List W) → ℕ → ℕ → List (Item S) → B → Type 0
ListsExport number reads words w s items given = ListsWords reads words × ExportsAll w s items empty (map number (words given))

-- Decodes of the items by reads from an iterator, behind an import from it.
abbrev pub DecodesFromIterator : {S W E I : Type 0} → (W → ℕ) → (I → Option (Result W E) → I → Type 0) → ℕ → ℕ → I
    → List (Item S) → Type 0
DecodesFromIterator {I = I} number gives w s given items =
    (last : AnsValue (I × Bool)) × DecodesFrom number (FusedRead gives) w s (given, false) items last

-- An import by reads from an iterator is refused.
abbrev pub IteratorRefused : {W E I : Type 0} → (W → ℕ) → (I → Option (Result W E) → I → Type 0) → ℕ → ℕ → I → Type 0
IteratorRefused {I = I} number gives w s given =
    (rest : I) × (done : Bool) × ImportRefused number (FusedRead gives) w s (given, false) (rest, done)

-- Items that are decoded by reads from an export of other items, under their models in reverse order, are these in
-- reverse order, and nothing is left.
abbrev pub ComeBackByReads : {S W E B : Type 0} → (W → ℕ) → (B → Result (Option W) E → B → Type 0) → (B → List W) → ℕ
    → ℕ → List (Item S) → List (Item S) → B → AnsValue B → Type 0
ComeBackByReads number reads words w s items others given last =
    ListsExport number reads words w s items given → DecodesFrom number reads w s given others last
    → AreReversed items others (state_by_words number words last ≡ empty)

-- Whatever function tells the words of the iterator, the symbols that a call returned are decoded from an import of
-- them.
abbrev pub HoldsListed : {S M W E A F I : Type 0} → (W → ℕ) → (I → Option (Result W E) → I → Type 0) → ℕ → ℕ → ℕ
    → (M → List (S × ℕ × ℕ)) → List M → I → Result (Vec S A) F → Type 0
HoldsListed {W = W} {I = I} number gives w s precision table models given result =
    (words : I → List W) → ListsItems gives words
    → IfItems precision table models result (HoldsItems w s (map number (words given)))

-- Whatever function tells the words of the iterator, a call returned the symbols if the words are those of their
-- encodes from an empty coder.
abbrev pub ReturnsListed : {S M W E A F I : Type 0} → (W → ℕ) → (I → Option (Result W E) → I → Type 0) → ℕ → ℕ → ℕ
    → (M → List (S × ℕ × ℕ)) → List M → I → Result (Vec S A) F → Type 0
ReturnsListed {S = S} {W = W} {I = I} number gives w s precision table models given result =
    (words : I → List W) (symbols : List S) (state : AnsState)
    → ListsItems gives words → ReturnsExported w s precision table models (map number (words given)) result symbols state
