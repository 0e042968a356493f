-- What the clause `step` of `encode_symbol` and of `decode_symbol` says of each answer, for any coder.
use Rattle.std.specs.Prelude.{◌≡◌, ℕ, List, ◌↔◌, Bool, false, Result, Ok, Err}
use Rattle.std.specs.Bool.{OnFalse}
use Rattle.std.proofs.Common.{inl, inr}
use Rattle.std.proofs.lemmas.Bool.{OnFalse_from}
use Rattle.constriction_base.specs.Steps.{Step}
use Rattle.constriction_base.specs.Tables.{AtEntry, Impossible}
use Rattle.constriction_base.specs.declared.errors.CoderError.{CoderError}
use Rattle.constriction_base.specs.declared.errors.CoderError.TheVariants.{Frontend, Backend}
use Rattle.constriction_base.specs.declared.errors.DefaultEncoderFrontendError.{DefaultEncoderFrontendError}
use Rattle.constriction_base.specs.declared.errors.DefaultEncoderFrontendError.TheVariants.{ImpossibleSymbol}
use Rattle.constriction_stream.specs.Symbols.{EncodesSymbol, DecodesSymbol, HasRoom, IsBackendError, ByBackend}

-- ---- any encoder

-- a success is the step of the symbol's entry
pub ok_of : {C S F B : Type 0} (encodes : C → Step → Result (Unit {0}) (CoderError F B) → C → Type 0) (is_impossible : F → Type 0) (precision : ℕ) (table : List (S × ℕ × ℕ)) (symbol : S) (old new : C)
    → EncodesSymbol encodes is_impossible precision table symbol old (Ok tt) new
    → AtEntry precision table symbol (λ step. encodes old step (Ok tt) new)
ok_of encodes is_impossible precision table symbol old new (inl step) = step
ok_of encodes is_impossible precision table symbol old new (inr (never, e, impossible, is, same)) = absurd cc

-- so is an error of the backend
pub refused_of : {C S F B : Type 0} (encodes : C → Step → Result (Unit {0}) (CoderError F B) → C → Type 0) (is_impossible : F → Type 0) (precision : ℕ) (table : List (S × ℕ × ℕ)) (symbol : S) (old new : C) (refusal : B)
    → EncodesSymbol encodes is_impossible precision table symbol old (Err (Backend refusal)) new
    → AtEntry precision table symbol (λ step. encodes old step (Err (Backend refusal)) new)
refused_of encodes is_impossible precision table symbol old new refusal (inl step) = step
refused_of encodes is_impossible precision table symbol old new refusal (inr (never, e, impossible, is, same)) = absurd cc

-- and an error of the coder itself, but that of an impossible symbol
pub refused_itself_of : {C S F B : Type 0} (encodes : C → Step → Result (Unit {0}) (CoderError F B) → C → Type 0) (is_impossible : F → Type 0) (precision : ℕ) (table : List (S × ℕ × ℕ)) (symbol : S) (old new : C) (refusal : F)
    → (is_impossible refusal → ⊥)
    → EncodesSymbol encodes is_impossible precision table symbol old (Err (Frontend refusal)) new
    → AtEntry precision table symbol (λ step. encodes old step (Err (Frontend refusal)) new)
refused_itself_of encodes is_impossible precision table symbol old new refusal other (inl step) = step
refused_itself_of {F = F} encodes is_impossible precision table symbol old new refusal other (inr (never, e, impossible, is, same)) =
    let one : e ≡ refusal = cc in absurd (other (rw one at impossible))

-- that of an impossible symbol comes where the model doesn't know the symbol, and leaves the coder; by the law `never_impossible`
pub impossible_of : {C S F B : Type 0} (encodes : C → Step → Result (Unit {0}) (CoderError F B) → C → Type 0) (is_impossible : F → Type 0) (precision : ℕ) (table : List (S × ℕ × ℕ)) (symbol : S) (old new : C) (refusal : F)
    → ((old : C) (step : Step) (e : F) (new : C) → is_impossible e → encodes old step (Err (Frontend e)) new → ⊥)
    → is_impossible refusal
    → EncodesSymbol encodes is_impossible precision table symbol old (Err (Frontend refusal)) new
    → Impossible table symbol × (new ≡ old)
impossible_of encodes is_impossible precision table symbol old new refusal law impossible (inl (left, p, has, step)) = absurd (law old _ refusal new impossible step)
impossible_of encodes is_impossible precision table symbol old new refusal law impossible (inr (never, e, any, is, same)) = (never, same)

-- and there no other answer comes
pub never_known_of : {C S F B : Type 0} (encodes : C → Step → Result (Unit {0}) (CoderError F B) → C → Type 0) (is_impossible : F → Type 0) (precision : ℕ) (table : List (S × ℕ × ℕ)) (symbol : S) (old new : C) (answer : Result (Unit {0}) (CoderError F B))
    → Impossible table symbol
    → EncodesSymbol encodes is_impossible precision table symbol old answer new
    → (e : F) × is_impossible e × (answer ≡ Err (Frontend e)) × (new ≡ old)
never_known_of encodes is_impossible precision table symbol old new answer never (inl (left, p, has, step)) = absurd (never left p has)
never_known_of encodes is_impossible precision table symbol old new answer never (inr (any, e, impossible, is, same)) = (e, impossible, is, same)

-- where a coder has room no error says that it is full; by the law `never_full`
pub room_of : {C S F B : Type 0} (encodes : C → Step → Result (Unit {0}) (CoderError F B) → C → Type 0) (is_impossible : F → Type 0) (is_lack_of_room : CoderError F B → Type 0) (precision : ℕ) (table : List (S × ℕ × ℕ)) (symbol : S) (old new : C) (error : CoderError F B)
    → ((e : F) → is_impossible e → is_lack_of_room (Frontend e) → ⊥)
    → HasRoom encodes is_lack_of_room old
    → EncodesSymbol encodes is_impossible precision table symbol old (Err error) new
    → is_lack_of_room error → ⊥
room_of encodes is_impossible is_lack_of_room precision table symbol old new error law room (inl (left, p, has, step)) lack = room _ error new step lack
room_of {F = F} {B = B} encodes is_impossible is_lack_of_room precision table symbol old new error law room (inr (never, e, impossible, is, same)) lack =
    let one : ◌≡◌ {A = CoderError F B} error (Frontend e) = cc in law e impossible (rw one at lack)

-- ---- an encoder that itself refuses an impossible symbol alone

-- the clause `step` there
abbrev pub EncodesByBackend : {C S B : Type 0} → (C → Step → Result (Unit {0}) B → C → Type 0) → ℕ → List (S × ℕ × ℕ) → S → C
    → Result (Unit {0}) (CoderError DefaultEncoderFrontendError B) → C → Type 0
EncodesByBackend steps precision table symbol old answer new = EncodesSymbol (ByBackend steps) (λ error. error ≡ ImpossibleSymbol) precision table symbol old answer new

pub ok_by : {C S B : Type 0} (steps : C → Step → Result (Unit {0}) B → C → Type 0) (precision : ℕ) (table : List (S × ℕ × ℕ)) (symbol : S) (old new : C)
    → EncodesByBackend steps precision table symbol old (Ok tt) new
    → AtEntry precision table symbol (λ step. steps old step (Ok tt) new)
ok_by steps precision table symbol old new (inl (left, p, has, (Ok u, step, is))) = (left, p, has, step)
ok_by steps precision table symbol old new (inl (left, p, has, (Err e, step, is))) = absurd cc
ok_by steps precision table symbol old new (inr (never, e, impossible, is, same)) = absurd cc

pub refused_by : {C S B : Type 0} (steps : C → Step → Result (Unit {0}) B → C → Type 0) (precision : ℕ) (table : List (S × ℕ × ℕ)) (symbol : S) (old new : C) (refusal : B)
    → EncodesByBackend steps precision table symbol old (Err (Backend refusal)) new
    → AtEntry precision table symbol (λ step. steps old step (Err refusal) new)
refused_by steps precision table symbol old new refusal (inl (left, p, has, (Ok u, step, is))) = absurd cc
refused_by steps precision table symbol old new refusal (inl (left, p, has, (Err e, step, is))) =
    let same : e ≡ refusal = cc in (left, p, has, rw same at step)
refused_by steps precision table symbol old new refusal (inr (never, e, impossible, is, same)) = absurd cc

pub impossible_by : {C S B : Type 0} (steps : C → Step → Result (Unit {0}) B → C → Type 0) (precision : ℕ) (table : List (S × ℕ × ℕ)) (symbol : S) (old new : C) (answer : Result (Unit {0}) (CoderError DefaultEncoderFrontendError B))
    → EncodesByBackend steps precision table symbol old answer new
    → (answer ≡ Err (Frontend ImpossibleSymbol)) ↔ Impossible table symbol
impossible_by steps precision table symbol old new answer (inl (left, p, has, (Ok u, step, is))) = (λ a. absurd cc, λ none. absurd (none left p has))
impossible_by steps precision table symbol old new answer (inl (left, p, has, (Err e, step, is))) = (λ a. absurd cc, λ none. absurd (none left p has))
impossible_by steps precision table symbol old new answer (inr (never, e, impossible, is, same)) = (λ a. never, λ none. cc)

-- the coder itself refuses nothing else
pub frontend_by : {C S B : Type 0} (steps : C → Step → Result (Unit {0}) B → C → Type 0) (precision : ℕ) (table : List (S × ℕ × ℕ)) (symbol : S) (old new : C) (refusal : DefaultEncoderFrontendError)
    → EncodesByBackend steps precision table symbol old (Err (Frontend refusal)) new → Impossible table symbol × (new ≡ old)
frontend_by steps precision table symbol old new refusal (inl (left, p, has, (Ok u, step, is))) = absurd cc
frontend_by steps precision table symbol old new refusal (inl (left, p, has, (Err e, step, is))) = absurd cc
frontend_by steps precision table symbol old new refusal (inr (never, e, impossible, is, same)) = (never, same)

pub untouched_by : {C S B : Type 0} (steps : C → Step → Result (Unit {0}) B → C → Type 0) (precision : ℕ) (table : List (S × ℕ × ℕ)) (symbol : S) (old new : C)
    → EncodesByBackend steps precision table symbol old (Err (Frontend ImpossibleSymbol)) new → new ≡ old
untouched_by steps precision table symbol old new (inl (left, p, has, (Ok u, step, is))) = absurd cc
untouched_by steps precision table symbol old new (inl (left, p, has, (Err e, step, is))) = absurd cc
untouched_by steps precision table symbol old new (inr (never, e, impossible, is, same)) = same

-- ---- an encoder whose steps answer what its backend does, and where lack of room is the backend's

-- there is room where the backend refuses no step for lack of it
pub room_by : {C F B : Type 0} (steps : C → Step → Result (Unit {0}) B → C → Type 0) (is_lack_of_room : B → Type 0) (coder : C)
    → ((step : Step) (e : B) (new : C) → steps coder step (Err e) new → is_lack_of_room e → ⊥)
    → HasRoom {E = CoderError F B} (ByBackend steps) (λ error. IsBackendError error is_lack_of_room) coder
room_by steps is_lack_of_room coder never step (Frontend e) new (answer, given, is) lack = absurd lack
room_by steps is_lack_of_room coder never step (Backend e) new (Ok u, given, is) lack = absurd cc
room_by steps is_lack_of_room coder never step (Backend e) new (Err refusal, given, is) lack =
    let same : refusal ≡ e = cc in never step e new (rw same at given) lack

-- so `maybe_full` keeps its promise, where the coder can tell
pub room_unless : {C B : Type 0} (F : Type 0) (full : Bool) (tells : Type 0) (steps : C → Step → Result (Unit {0}) B → C → Type 0) (is_lack_of_room : B → Type 0) (coder : C)
    → (full ≡ false → tells → (step : Step) (e : B) (new : C) → steps coder step (Err e) new → is_lack_of_room e → ⊥)
    → OnFalse full (tells → HasRoom {E = CoderError F B} (ByBackend steps) (λ error. IsBackendError error is_lack_of_room) coder)
room_unless {B = B} F full tells steps is_lack_of_room coder never =
    OnFalse_from full (tells → HasRoom {E = CoderError F B} (ByBackend steps) (λ error. IsBackendError error is_lack_of_room) coder)
    (λ not_full told. room_by steps is_lack_of_room coder (never not_full told))

-- ---- a decoder whose steps answer what its backend does

-- its clause
abbrev pub DecodesByBackend : {C S F B : Type 0} → (C → Step → Result (Unit {0}) B → C → Type 0) → (C → CoderError F B → C → Type 0) → ℕ → List (S × ℕ × ℕ) → C
    → Result S (CoderError F B) → C → Type 0
DecodesByBackend steps halts precision table old answer new = DecodesSymbol (ByBackend steps) halts precision table old answer new

-- a success is the step of the symbol's entry
pub decoded_by : {C S F B : Type 0} (steps : C → Step → Result (Unit {0}) B → C → Type 0) (halts : C → CoderError F B → C → Type 0) (precision : ℕ) (table : List (S × ℕ × ℕ)) (symbol : S) (old new : C)
    → DecodesByBackend steps halts precision table old (Ok symbol) new
    → AtEntry precision table symbol (λ step. steps old step (Ok tt) new)
decoded_by steps halts precision table symbol old new (left, p, has, (Ok u, step, is)) = (left, p, has, step)
decoded_by steps halts precision table symbol old new (left, p, has, (Err e, step, is)) = absurd cc

-- an error is that of an entry's step, or the coder halts by it
pub undecoded_by : {C S F B : Type 0} (steps : C → Step → Result (Unit {0}) B → C → Type 0) (halts : C → CoderError F B → C → Type 0) (precision : ℕ) (table : List (S × ℕ × ℕ)) (old new : C) (refusal : B)
    → (halts old (Backend refusal) new → ⊥)
    → DecodesByBackend steps halts precision table old (Err (Backend refusal)) new
    → (symbol : S) × AtEntry precision table symbol (λ step. steps old step (Err refusal) new)
undecoded_by steps halts precision table old new refusal never (inl halted) = absurd (never halted)
undecoded_by steps halts precision table old new refusal never (inr (symbol, (left, p, has, (Ok u, step, is)))) = absurd cc
undecoded_by steps halts precision table old new refusal never (inr (symbol, (left, p, has, (Err e, step, is)))) =
    let same : e ≡ refusal = cc in (symbol, (left, p, has, rw same at step))
