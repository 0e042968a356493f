-- Failed exports of a stack coder: the backend refuses room for the words of the head, or refuses a write. The
-- definitions don't describe the backend after the failure.
use Rattle.std.specs.Prelude.{ℕ, ◌^◌}
use Rattle.std.specs.Int.Digits.{digits_of}
use Rattle.constriction_base.specs.Digits.{fixed_digits}
use Rattle.constriction_base.specs.Writing.{IsOneAbove, NotWritten}
use Rattle.constriction_base.specs.declared.backends.reading.Holds as holding
use Rattle.constriction_base.specs.declared.backends.writing.WriteWords as writing
use Rattle.constriction_stack.specs.Ans.{AnsValue}

-- The backend refuses room for the words of the head, or refuses a write.
abbrev pub ExportNotWritten : {W B E S : Type 0} → (W → ℕ) → holding.Ghosts B W S → writing.Ghosts B W E → ℕ → AnsValue B → E → Type 0
ExportNotWritten number holds writes w coder e = NotWritten number holds writes (digits_of (2 ^ w) coder.state.head) coder.backend e

-- The head has `m` words below its leading 1, and the backend refuses room for these words, or a write.
abbrev pub BinaryExportNotWritten : {W B E S : Type 0} → (W → ℕ) → holding.Ghosts B W S → writing.Ghosts B W E → ℕ → AnsValue B → E → Type 0
BinaryExportNotWritten number holds writes w coder e =
    (m : ℕ) × IsOneAbove w m coder.state.head × NotWritten number holds writes (fixed_digits (2 ^ w) m coder.state.head) coder.backend e
