-- What the two tests promise: no step is refused because data ended, or for lack of room.
use Rattle.std.specs.Prelude.{◌≡◌, ⊤, ℕ, Bool, true, false, None, Ok, Err}
use Rattle.std.specs.Bool.{OnFalse}
use Rattle.std.proofs.Common.{inl, inr, refl}
use Rattle.constriction_base.specs.Steps.{Step}
use Rattle.constriction_base.specs.declared.backends.reading.Holds as holding
use Rattle.constriction_base.specs.declared.backends.reading.ReadWords as reading
use Rattle.constriction_base.specs.declared.backends.writing.WriteWords as writing
use Rattle.constriction_base.specs.declared.errors.CoderError.{CoderError}
use Rattle.constriction_base.specs.declared.errors.CoderError.TheVariants.{Frontend, Backend}
use Rattle.constriction_stream.specs.Symbols.{GoesOn, HasRoom}
use Rattle.constriction_chain.specs.Chain.{ChainValue}
use Rattle.constriction_chain.specs.Steps.{DecodeCall, EncodeCall, Halted, IsEndOfData, IsLackOfRoom}
use Rattle.constriction_chain.specs.declared.errors.BackendError.{BackendError}
use Rattle.constriction_chain.specs.declared.errors.BackendError.TheVariants.{Compressed, Remainders}
use Rattle.constriction_chain.specs.declared.errors.DecoderFrontendError.{DecoderFrontendError}
use Rattle.constriction_chain.specs.declared.errors.DecoderFrontendError.TheVariants.{OutOfCompressedData}
use Rattle.constriction_chain.specs.declared.errors.EncoderFrontendError.TheVariants.{OutOfRemainders, ImpossibleSymbol}

module _ {W C R S E F : Type 0} (number : W → ℕ) (compressed_holds : holding.Ghosts C W S) (compressed_reads : reading.Ghosts C W S E)
    (remainders_holds : holding.Ghosts R W S) (remainders_writes : writing.Ghosts R W F)
    (lack : F → Type 0) (w s P : ℕ) (coder : ChainValue C R) where
  module _ (some_left : (after : C) → compressed_reads.reads coder.compressed (Ok None) after → ⊥) (not_full : (e : F) → lack e → remainders_writes.write_fails coder.remainders e → ⊥)
      (has_place : (e : F) → lack e → remainders_writes.prepare_fails coder.remainders 1 e → ⊥) where
    step_goes : (step : Step) (e : CoderError DecoderFrontendError (BackendError E F)) (new : ChainValue C R) → DecodeCall number compressed_holds compressed_reads remainders_holds remainders_writes w s coder step (Err e) new → IsEndOfData lack e → ⊥
    step_goes step (Frontend OutOfCompressedData) new call end = call.outcome
    step_goes step (Backend (Compressed x)) new call end = end
    step_goes step (Backend (Remainders x)) new call end = not_full x end call.outcome.fails

    halt_goes : (e : CoderError DecoderFrontendError (BackendError E F)) (new : ChainValue C R) → Halted number compressed_holds compressed_reads remainders_holds remainders_writes w s P coder e new → IsEndOfData lack e → ⊥
    halt_goes (Frontend OutOfCompressedData) new halted end = some_left new.compressed halted.why.1.0
    halt_goes (Backend (Compressed x)) new halted end = end
    halt_goes (Backend (Remainders x)) new halted end = has_place x end halted.why.1

  -- an answer that is false only where there is room
  pub goes_unless : (full : Bool) → ((after : C) → compressed_reads.reads coder.compressed (Ok None) after → ⊥) → (full ≡ false → (e : F) → lack e → remainders_writes.write_fails coder.remainders e → ⊥)
      → (full ≡ false → (e : F) → lack e → remainders_writes.prepare_fails coder.remainders 1 e → ⊥) → OnFalse full (GoesOn (DecodeCall number compressed_holds compressed_reads remainders_holds remainders_writes w s) (Halted number compressed_holds compressed_reads remainders_holds remainders_writes w s P) (IsEndOfData lack) coder)
  goes_unless true some_left not_full has_place = tt
  goes_unless false some_left not_full has_place =
      (step_goes some_left (not_full refl) (has_place refl), halt_goes some_left (not_full refl) (has_place refl))

module _ {W C R S E F : Type 0} (number : W → ℕ) (compressed_holds : holding.Ghosts C W S) (compressed_writes : writing.Ghosts C W E)
    (remainders_holds : holding.Ghosts R W S) (remainders_reads : reading.Ghosts R W S F)
    (lack : E → Type 0) (w s : ℕ) (coder : ChainValue C R) where
  has_room : ((after : R) → remainders_reads.reads coder.remainders (Ok None) after → ⊥) → ((e : E) → lack e → compressed_writes.write_fails coder.compressed e → ⊥)
      → ((e : E) → lack e → compressed_writes.prepare_fails coder.compressed 1 e → ⊥) → HasRoom (EncodeCall number compressed_holds compressed_writes remainders_holds remainders_reads w s) (IsLackOfRoom {F = F} lack) coder
  has_room some_left not_full has_place step (Frontend OutOfRemainders) new call lacks = some_left new.remainders call.outcome.answered.0
  has_room some_left not_full has_place step (Frontend ImpossibleSymbol) new call lacks = lacks
  has_room some_left not_full has_place step (Backend (Compressed x)) new call lacks = elim call.outcome.why [
    | inl prepare ↦ has_place x lacks prepare.0
    | inr write ↦ not_full x lacks write.1
  ]
  has_room some_left not_full has_place step (Backend (Remainders x)) new call lacks = lacks

  pub has_room_unless : (full : Bool) → ((after : R) → remainders_reads.reads coder.remainders (Ok None) after → ⊥) → (full ≡ false → (e : E) → lack e → compressed_writes.write_fails coder.compressed e → ⊥)
      → (full ≡ false → (e : E) → lack e → compressed_writes.prepare_fails coder.compressed 1 e → ⊥) → OnFalse full (⊤ → HasRoom (EncodeCall number compressed_holds compressed_writes remainders_holds remainders_reads w s) (IsLackOfRoom {F = F} lack) coder)
  has_room_unless true some_left not_full has_place = tt
  has_room_unless false some_left not_full has_place = λ any. has_room some_left (not_full refl) (has_place refl)
