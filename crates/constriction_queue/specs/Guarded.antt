-- The range encoder that a guard borrows, the words that the guard lends, and the number of words that the guard wrote.
use Rattle.std.specs.Prelude.{ℕ, ◌+◌, ◌<◌, List, length}
use Rattle.std.specs.Borrow.{MutBor}
use Rattle.std.specs.declared.vec.Vec.{Vec}
use Rattle.constriction_queue.specs.Encoder.{Encoder, sealed_by}
use Rattle.constriction_queue.specs.declared.encoder.RangeEncoder.{RangeEncoder}
use Rattle.constriction_queue.specs.declared.encoder.guard.EncoderGuard.{EncoderGuard}

-- The encoder that a guard borrows.
abbrev pub lender : {Word State A WordNonZero StateNonZero : Type 0}
    → EncoderGuard Word State A WordNonZero StateNonZero → MutBor (RangeEncoder Word State (Vec Word A) WordNonZero StateNonZero)
lender g = g.inner

-- The number of words that a guard wrote onto the encoder's vector.
abbrev pub written : {Word State A WordNonZero StateNonZero : Type 0} → EncoderGuard Word State A WordNonZero StateNonZero → ℕ
written g = g.count

-- The words that a guard lends.
abbrev pub lent_by : {Word State A WordNonZero StateNonZero : Type 0} → EncoderGuard Word State A WordNonZero StateNonZero → List Word
lent_by g = g.inner.now.bulk.items

-- The borrowed encoder after the guard's drop: the first of the fields that the drop gives back.
abbrev pub lent_back : {A B : Type 0} → A × B → A
lent_back exit = exit.0

-- The backend has less room than there are sealed words that are not written yet.
abbrev pub TooShortForSeal : {B : Type 0} → (B → ℕ) → ℕ → ℕ → Encoder B → Type 0
TooShortForSeal room w s e = room e.bulk + length e.words < length (sealed_by w s e)
