-- The errors of encoding and decoding symbols with range coders, and the results of a decoder's end-of-data test.
use Rattle.std.specs.Prelude.{◌≡◌, ◌↔◌, ◌<◌, ℕ, ⊤, List, Bool, IsTrue, length}
use Rattle.constriction_base.specs.Models.{Item}
use Rattle.constriction_base.specs.declared.backends.reading.Holds as holding
use Rattle.constriction_base.specs.declared.errors.CoderError.{CoderError}
use Rattle.constriction_base.specs.declared.errors.CoderError.TheVariants.{Frontend}
use Rattle.constriction_queue.specs.Range.{Run, Within, sealed, initial}
use Rattle.constriction_queue.specs.Decoder.{Decoder, IsDecoder, MayBeExhausted, StandsAt}
use Rattle.constriction_queue.specs.States.{IsPosition}
use Rattle.constriction_laws.specs.Outcomes.{Reasons}
use Rattle.constriction_laws.specs.declared.errors.RoundTripError.{RoundTripError}
use Rattle.constriction_laws.specs.declared.errors.Stopped.{Stopped}
use Rattle.constriction_laws.specs.declared.errors.Stopped.TheVariants as stopped
use Rattle.constriction_laws.specs.declared.queue.concatenated.DecodeError.{DecodeError}
use Rattle.constriction_laws.specs.declared.queue.concatenated.DecodeError.TheVariants.{NoSuchPlace, InvalidData}
use Rattle.constriction_queue.specs.Symbols.{NarrowsAll, FindsAll, MayEnd, NearsEnd}

-- The reason why symbols weren't encoded: one has no entry, or there are more symbols than the encoder can count.
abbrev pub NotCoded : Type 0 → Type 0 → RoundTripError → Type 0
NotCoded impossible many e = Reasons impossible many ⊥ (λ taken. ⊥) e

-- The reason why symbols weren't decoded: the words don't encode symbols of these models.
abbrev pub NotRead : Type 0 → RoundTripError → Type 0
NotRead none e = Reasons ⊥ ⊥ none (λ taken. ⊥) e

-- The items are decoded from these words, starting at the interval `old`. The decoder `new` is positioned after them.
abbrev pub ReadTo : {S B : Type 0} → ℕ → ℕ → List ℕ → List (Item S) → Run → Decoder B → Type 0
ReadTo w s words items old new = (last : Run) × FindsAll w s words items old last × StandsAt w s words last new

-- No list of `amt` symbols is decoded from these words, starting at the interval `old`. The function `items` gives each
-- symbol its model.
abbrev pub NoList : {S : Type 0} → ℕ → ℕ → List ℕ → (List S → List (Item S)) → ℕ → Run → Type 0
NoList {S} w s words items amt old = (symbols : List S) (last : Run) → length symbols ≡ amt → FindsAll w s words (items symbols) old last → ⊥

-- If the backend's `is_list` holds, no list of `amt` symbols is decoded from the decoder's position on.
abbrev pub NoListFrom : {S B : Type 0} → Type 0 → ℕ → ℕ → (List S → List (Item S)) → ℕ → Decoder B → Type 0
NoListFrom is_list w s items amt decoder = is_list → (words : List ℕ) (old : Run) → StandsAt w s words old decoder → NoList w s words items amt old

-- Encoding the items from the interval `old` and sealing gives these words.
abbrev pub SealsAll : {S : Type 0} → ℕ → ℕ → List (Item S) → Run → List ℕ → Type 0
SealsAll w s items old words = (last : Run) × NarrowsAll w s items old last × (words ≡ sealed w s last)

-- A new decoder of the words decodes these items, and then returns `ended`. The result is true if `MayEnd` holds, and
-- false if `NearsEnd` doesn't hold.
abbrev pub ReadsToEnd : {S : Type 0} → ℕ → ℕ → List ℕ → List (Item S) → Bool → Type 0
ReadsToEnd w s words items ended =
    (last : Run) × FindsAll w s words items (initial s) last × (MayEnd w s words last → IsTrue ended) × (IsTrue ended → NearsEnd w s words last)

-- A decoder of the words is positioned after these items. Its words are those of its backend (`IsDecoder`), and
-- `exhausted` says whether the backend may have run out of words. The result is true if and only if that decoder may be
-- exhausted.
abbrev pub ReportsEnd : {Word S B T : Type 0} → (Word → ℕ) → holding.Ghosts B Word T → ℕ → ℕ → (B → Bool) → List ℕ → List (Item S) → Bool → Type 0
ReportsEnd {B = B} number holds w s exhausted words items ended = (last : Run) × (decoder : Decoder B)
    × IsDecoder number holds w s decoder × FindsAll w s words items (initial s) last × StandsAt w s words last decoder
    × (IsTrue ended ↔ MayBeExhausted w s exhausted decoder)

-- The words lie within the interval to which encoding the items leads.
abbrev pub LieWithin : {S : Type 0} → ℕ → ℕ → List ℕ → List (Item S) → Type 0
LieWithin w s words items = (last : Run) × NarrowsAll w s items (initial s) last × Within w s words last

-- Decoding `amt` symbols from a position fails with this error. `NoSuchPlace`: the words end before the position.
-- `InvalidData`: the words encode no `amt` symbols from any interval at the position.
abbrev pub NoListAt : {S : Type 0} → ℕ → ℕ → List ℕ → (List S → List (Item S)) → ℕ → ℕ → ℕ → ℕ → DecodeError → Type 0
NoListAt w s words items amt place lower range NoSuchPlace = length words < place
NoListAt w s words items amt place lower range InvalidData = (there : Run) → IsPosition s there place lower range → NoList w s words items amt there
NoListAt w s words items amt place lower range other = ⊤

-- If the decoder itself refused a list of decodes, the property holds.
abbrev pub InvalidWhere : {F B : Type 0} → Type 0 → Stopped (CoderError F B) → Type 0
InvalidWhere none (stopped.Refused (Frontend e)) = none
InvalidWhere none other = ⊤
