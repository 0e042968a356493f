-- The words that a guard writes onto a stack coder's backend and removes when dropped, and the coder after a failed
-- write.
use Rattle.std.specs.Prelude.{◌≡◌, ◌⊎◌, ℕ, ◌^◌, List, Option, Result, drop, map}
use Rattle.std.specs.Int.Digits.{digits_of}
use Rattle.constriction_base.specs.Digits.{fixed_digits}
use Rattle.constriction_base.specs.Readings.{NeverRefused, ReadsUpTo}
use Rattle.constriction_base.specs.Writing.{IsBegun, IsOneAbove, RefusesWrite}
use Rattle.constriction_base.specs.declared.backends.reading.Holds as holding
use Rattle.constriction_base.specs.declared.backends.writing.WriteWords as writing
use Rattle.constriction_base.specs.declared.errors.CoderError.{CoderError}
use Rattle.constriction_base.specs.declared.errors.CoderError.TheVariants.{Frontend, Backend}
use Rattle.constriction_stack.specs.Ans.{AnsState, AnsValue, exported}
use Rattle.constriction_stack.specs.Binary.{binary_words}

-- The state with the same head, and without the `count` top words below the head.
abbrev pub without : ℕ → AnsState → AnsState
without count x = record { head = x.head; words = drop count x.words }

-- The new state has the head of the old state, and below it all words of the old state's export.
abbrev pub ShowsExported : ℕ → AnsState → AnsState → Type 0
ShowsExported w old new = new ≡ record { head = old.head; words = exported w old }

-- The old state has a binary form. The new state has the head of the old state, and below it the words of this form.
abbrev pub ShowsBinary : ℕ → AnsState → AnsState → Type 0
ShowsBinary w old new = (m : ℕ) × IsOneAbove w m old.head × (new ≡ record { head = old.head; words = binary_words w m old })

-- A write of the words `owed` is refused, and reads then take off the `count` words that lie on the old ones. If a read
-- fails, it is the last.
abbrev pub ReadsWrittenBack : {W B E F S : Type 0} → (W → ℕ) → holding.Ghosts B W S → writing.Ghosts B W E → (B → Result (Option W) F → B → Type 0) → List ℕ → B → E → B → Type 0
ReadsWrittenBack {B = B} number holds writes reads owed old e new =
    (left : B) × (count : ℕ) × IsBegun owed (map number (holds.words old)) (map number (holds.words left))
    × RefusesWrite number holds writes owed old e left × (drop count (holds.words left) ≡ holds.words old) × ReadsUpTo reads count left new

-- The coder after a guard fails to write the words `owed`. Either the state is unchanged, or a write fails and the head
-- is unchanged. The words written before are then read back. If no read ever fails, the words are unchanged too.
abbrev pub LeftByRefusal : {W B E F S : Type 0} → (W → ℕ) → holding.Ghosts B W S → writing.Ghosts B W E → (B → Result (Option W) F → B → Type 0) → List ℕ → AnsValue B → E → AnsValue B → Type 0
LeftByRefusal number holds writes reads owed old e new =
    (new.state ≡ old.state)
    ⊎ ((new.state.head ≡ old.state.head) × (NeverRefused reads → new.state ≡ old.state)
    × ReadsWrittenBack number holds writes reads owed old.backend e new.backend)

-- The coder after a guard fails to write the words of the export.
abbrev pub ExportLeft : {W B E F S : Type 0} → (W → ℕ) → holding.Ghosts B W S → writing.Ghosts B W E → (B → Result (Option W) F → B → Type 0) → ℕ → AnsValue B → E → AnsValue B → Type 0
ExportLeft number holds writes reads w old e new = LeftByRefusal number holds writes reads (digits_of (2 ^ w) old.state.head) old e new

-- The coder after a guard fails to write the words of the binary form. If there is no binary form (`Frontend`), the
-- coder is unchanged. Otherwise (`Backend`), the coder is as `LeftByRefusal` describes.
abbrev pub BinaryLeft : {W B E F S G : Type 0} → (W → ℕ) → holding.Ghosts B W S → writing.Ghosts B W E → (B → Result (Option W) F → B → Type 0) → ℕ → AnsValue B → CoderError G E → AnsValue B → Type 0
BinaryLeft number holds writes reads w old (Frontend e) new = new ≡ old
BinaryLeft number holds writes reads w old (Backend e) new =
    (m : ℕ) × IsOneAbove w m old.state.head × LeftByRefusal number holds writes reads (fixed_digits (2 ^ w) m old.state.head) old e new
