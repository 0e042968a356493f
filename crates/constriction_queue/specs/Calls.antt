-- The possible results of a range coder's calls over any backend. The definitions use only the backend's rules: its
-- words, the possible results of a read, and the possible errors of a write and of `prepare`.
use Rattle.std.specs.Prelude.{◌≡◌, ℕ, ◌+◌, ◌-◌, ◌<◌, ◌≤◌, ◌^◌, ◌⊎◌, Bool, List, [], ◌++◌, Option, Result, Ok, Err, length, map, reverse, OnOk, OnErr, IfOk, IfErr}
use Rattle.constriction_base.specs.Steps.{Step}
use Rattle.constriction_base.specs.Writing.{IsBegun, NotWritten, RefusesWrite}
use Rattle.constriction_base.specs.declared.backends.semantics.Queue.{Queue}
use Rattle.constriction_base.specs.declared.backends.reading.Holds as holding
use Rattle.constriction_base.specs.declared.backends.reading.ReadWords as reading
use Rattle.constriction_base.specs.declared.backends.writing.WriteWords as writing
use Rattle.constriction_base.specs.declared.errors.ReadWriteError.{ReadWriteError}
use Rattle.constriction_base.specs.declared.errors.ReadWriteError.TheVariants.{Read, Write}
use Rattle.constriction_queue.specs.Range.{narrowed_by}
use Rattle.constriction_queue.specs.declared.situation.EncoderSituation.{EncoderSituation}
use Rattle.constriction_queue.specs.declared.step.Shifted.{Shifted}
use Rattle.constriction_queue.specs.Encoder.{Encoder, IsEncoder, HasHeads, Flushes, PartsFit, encoder_of, run_by, sealed_by, shifted_over}
use Rattle.constriction_queue.specs.Decoder.{Decoder, IsDecoder, StandsAtStart, Follows, BeginsOver, RefusesPoint, quantile_read, OwesRead, ReadsStep}
use Rattle.constriction_queue.specs.SelfDelimiting.{SelfDelimits}

-- The encoder writes the words that the step has to write.
pub record IsWritten {Word B E : Type 0} (number : Word → ℕ) (writes : writing.Ghosts B Word E) (w s : ℕ) (old : Encoder B) (step : Step) (new : Encoder B) : Type 0 where
  pub owed : List ℕ
  pub owes : Flushes number w s step old owed
  pub words : new.words ≡ owed ++ old.words
  -- The room shrinks by at most the number of words written.
  pub room_used : writes.room old.bulk ≤ writes.room new.bulk + length owed
  -- If there is no word to write, the backend is unchanged.
  pub untouched : owed ≡ [] → new.bulk ≡ old.bulk

-- The backend refuses room for the words that the step has to write, or refuses a write.
pub record IsRefused {Word B E S : Type 0} (number : Word → ℕ) (holds : holding.Ghosts B Word S) (writes : writing.Ghosts B Word E) (w s : ℕ) (old : Encoder B) (step : Step) (e : E) (new : Encoder B) : Type 0 where
  pub owed : List ℕ
  pub owes : Flushes number w s step old owed
  -- The backend takes a proper beginning of these words, which may be empty.
  pub begun : IsBegun owed old.words new.words
  -- The room of the old backend is less than the number of these words.
  pub short : writes.room old.bulk < length owed
  -- The error comes from `prepare`, or, if `prepare` makes no room, from a write.
  pub error : writes.prepare_fails old.bulk (length owed) e ⊎ RefusesWrite number holds writes owed old.bulk e new.bulk
  -- If no word is pending, the failed call is `prepare` for one word, or the write of this word.
  pub one : old.held ≡ [] → writes.prepare_fails old.bulk 1 e ⊎ ((writes.makes_room → ⊥) × writes.write_fails old.bulk e)

-- The possible results of encoding one symbol with this step.
pub record EncodeCall {Word B E S : Type 0} (number : Word → ℕ) (holds : holding.Ghosts B Word S) (writes : writing.Ghosts B Word E) (w s : ℕ) (old : Encoder B) (step : Step) (answer : Result (Unit {0}) E) (new : Encoder B) : Type 0 where
  -- The values before and after the call satisfy the encoder's invariant, also after an error.
  pub before : IsEncoder number holds w s old
  pub after : IsEncoder number holds w s new
  -- On success, the new run is the old run after the step.
  pub narrowed : OnOk answer (run_by w s new ≡ narrowed_by w s step (run_by w s old))
  -- On success, the words that the step has to write are written.
  pub written : OnOk answer (IsWritten number writes w s old step new)
  -- At most one more word is pending.
  pub held : length new.held ≤ length old.held + 1
  -- An error leaves the interval and the pending words unchanged. If `prepare` makes room, it also leaves the written
  -- words unchanged.
  pub heads : OnErr answer (HasHeads old new)
  pub kept : writes.makes_room → OnErr answer (new.words ≡ old.words)
  -- An error comes only if there are words to write, from `prepare` or from a write.
  pub error : IfErr answer (λ e. IsRefused number holds writes w s old step e new)

-- A call encodes a step at this interval, with these pending words, over this backend. The call returns the new
-- interval and the new pending words, or an error.
pub record EncodesAtInterval {Word State B E S : Type 0} (number : Word → ℕ) (state : State → ℕ) (holds : holding.Ghosts B Word S) (writes : writing.Ghosts B Word E)
    (w s : ℕ) (lower range : State) (situation : EncoderSituation Word) (step : Step) (old : B) (answer : Result (Shifted Word State) E) (new : B) : Type 0 where
  pub ok : IfOk answer (λ after. EncodeCall number holds writes w s
      (encoder_of number holds w (state lower) (state range) old situation) step (Ok tt) (shifted_over number state holds w after new))
  -- The new interval has at least the length `2 ^ (s - w)`, and the new pending words fit it.
  pub wide : IfOk answer (λ after. 2 ^ (s - w) ≤ state after.range)
  pub fit : IfOk answer (λ after. PartsFit number w s after.situation (state after.lower) (state after.range))
  -- An error leaves the interval and the pending words unchanged.
  pub err : IfErr answer (λ e. EncodeCall number holds writes w s
      (encoder_of number holds w (state lower) (state range) old situation) step (Err e)
      (encoder_of number holds w (state lower) (state range) new situation))

-- An export fails, because the backend refuses room for the pending words and the seal, or refuses a write. `all` holds
-- for the list of words that a successful export would return.
pub record ExportRefused {Word B E S : Type 0} (number : Word → ℕ) (holds : holding.Ghosts B Word S) (writes : writing.Ghosts B Word E) (all : List ℕ → Type 0) (old : Encoder B) (e : E) : Type 0 where
  pub words_are : old.words ≡ map number (holds.words old.bulk)
  pub owed : List ℕ
  pub is : all (reverse (owed ++ old.words))
  pub not_written : NotWritten number holds writes owed old.bulk e

-- The export of the sealed words fails (`into_compressed`).
abbrev pub SealRefused : {Word B E S : Type 0} → (Word → ℕ) → holding.Ghosts B Word S → writing.Ghosts B Word E → ℕ → ℕ → Encoder B → E → Type 0
SealRefused number holds writes w s old e =
    ExportRefused number holds writes (λ words. words ≡ sealed_by w s old) old e

-- The export of words with a self-delimiting seal fails (`into_self_delimited`).
abbrev pub SelfDelimitingRefused : {Word B E S : Type 0} → (Word → ℕ) → holding.Ghosts B Word S → writing.Ghosts B Word E → ℕ → ℕ → Encoder B → E → Type 0
SelfDelimitingRefused number holds writes w s old e =
    ExportRefused number holds writes (SelfDelimits w s (run_by w s old)) old e

-- A queue's rules for reads, taken from a record that also has the rules for its words.
abbrev pub queue_reads : {Word B E : Type 0} → record { words : B → List Word; is_list : Type 0; reads : B → Result (Option Word) E → B → Type 0; seems_exhausted : B → Bool }
    → reading.Ghosts B Word Queue E
queue_reads rules = record { reads = rules.reads; seems_exhausted = rules.seems_exhausted }

-- The decoder stands before the first symbol of an encoder's sealed words. A backend `all` with these words becomes the
-- backend `first`, from which the decoder reads its point.
abbrev pub BeginsSealed : {Word B S R Q F : Type 0} → (Word → ℕ) → holding.Ghosts B Word S → (B → R → Type 0) → reading.Ghosts R Word Q F → ℕ → ℕ → Encoder B → Decoder R → Type 0
BeginsSealed {B = B} {R = R} number holds becomes reads w s encoder decoder =
    (all : B) × (reverse (map number (holds.words all)) ≡ sealed_by w s encoder) × (first : R) × becomes all first × BeginsOver number reads w s first decoder

-- The decoder satisfies `IsDecoder` and `BeginsSealed`. If `is_list` holds for its backend, it stands at the initial
-- run of the sealed words.
abbrev pub DecodesSealed : {Word B S R Q F : Type 0} → (Word → ℕ) → holding.Ghosts B Word S → (B → R → Type 0) → holding.Ghosts R Word Q → reading.Ghosts R Word Q F
    → ℕ → ℕ → Encoder B → Decoder R → Type 0
DecodesSealed number holds becomes read_holds reads w s encoder decoder =
    IsDecoder number read_holds w s decoder
    × (read_holds.is_list → StandsAtStart w s (sealed_by w s encoder) decoder)
    × BeginsSealed number holds becomes reads w s encoder decoder

-- Creating a decoder of an encoder's sealed words fails, because a read of its first words returns an error.
abbrev pub NotBegun : {Word B S R Q F : Type 0} → (Word → ℕ) → holding.Ghosts B Word S → (B → R → Type 0) → reading.Ghosts R Word Q F → ℕ → ℕ → Encoder B → F → Type 0
NotBegun {B = B} {R = R} number holds becomes reads w s encoder e =
    (all : B) × (reverse (map number (holds.words all)) ≡ sealed_by w s encoder) × (first rest : R) × becomes all first × RefusesPoint number reads w s first e rest

-- An encoder can't be turned into a decoder. Either its words can't be sealed (`Write`), or a read of the decoder's
-- first words fails (`Read`).
abbrev pub NoDecoder : {Word B S E R Q F : Type 0} → (Word → ℕ) → holding.Ghosts B Word S → writing.Ghosts B Word E → (B → R → Type 0) → reading.Ghosts R Word Q F
    → ℕ → ℕ → Encoder B → ReadWriteError F E → Type 0
NoDecoder number holds writes becomes reads w s encoder (Write e) = SealRefused number holds writes w s encoder e
NoDecoder number holds writes becomes reads w s encoder (Read e) = NotBegun number holds becomes reads w s encoder e

-- The possible results of decoding one symbol with this step.
pub record DecodeCall {Word B E S : Type 0} (number : Word → ℕ) (holds : holding.Ghosts B Word S) (reads : reading.Ghosts B Word S E) (w s : ℕ) (old : Decoder B) (step : Step) (answer : Result (Unit {0}) E) (new : Decoder B) : Type 0 where
  -- The values before and after the call satisfy the decoder's invariant, also after an error.
  pub before : IsDecoder number holds w s old
  pub after : IsDecoder number holds w s new
  -- The quantile that is read lies in the interval of the step.
  pub from : step.left ≤ quantile_read s step.precision old
  pub below : quantile_read s step.precision old < step.left + step.p
  -- On success, if `is_list` holds for the backend, the decoder has reached the run after the step.
  pub read : OnOk answer (holds.is_list → Follows w s (narrowed_by w s step) old new)
  -- On success, the decoder makes one read if it has to read a word, and otherwise no read.
  pub by_reads : OnOk answer (ReadsStep number reads w s step old new)
  -- An error leaves the interval and the point unchanged. If `is_list` holds for the backend, it also leaves the words
  -- unchanged.
  pub lower : OnErr answer (new.lower ≡ old.lower)
  pub range : OnErr answer (new.range ≡ old.range)
  pub point : OnErr answer (new.point ≡ old.point)
  pub kept : holds.is_list → OnErr answer (new.words ≡ old.words)
  -- An error comes only if the decoder has to read a word, and it is the error of that read.
  pub error : IfErr answer (λ e. OwesRead w s step old.range × reads.reads old.bulk (Err e) new.bulk)
