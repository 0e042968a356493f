-- The possible results of encoding or decoding one symbol under a model's table. Also statements about which errors a
-- coder's steps can return.
use Rattle.std.specs.Prelude.{◌≡◌, ℕ, List, ◌⊎◌, Result, Ok, Err, MatchResult}
use Rattle.constriction_base.specs.Steps.{Step}
use Rattle.constriction_base.specs.Tables.{AtEntry, Impossible}
use Rattle.constriction_base.specs.declared.errors.CoderError.{CoderError}
use Rattle.constriction_base.specs.declared.errors.CoderError.TheVariants.{Frontend, Backend}

-- The coder makes the step of the symbol's entry. If the table has no entry for the symbol, the frontend refuses with
-- an error that means an impossible symbol, and the coder is unchanged.
abbrev pub EncodesSymbol : {C S F B : Type 0} → (C → Step → Result (Unit {0}) (CoderError F B) → C → Type 0) → (F → Type 0)
    → ℕ → List (S × ℕ × ℕ) → S → C → Result (Unit {0}) (CoderError F B) → C → Type 0
EncodesSymbol {F = F} encodes is_impossible precision table symbol old result new =
    AtEntry precision table symbol (λ step. encodes old step result new)
    ⊎ (Impossible table symbol × (e : F) × is_impossible e × (result ≡ Err (Frontend e)) × (new ≡ old))

-- `EncodesSymbol` for a pair of a lent symbol and a model: it encodes the symbol under the model's table.
abbrev pub EncodesPair : {C S A M F B : Type 0} → (C → Step → Result (Unit {0}) (CoderError F B) → C → Type 0) → (F → Type 0)
    → ℕ → (M → List (S × ℕ × ℕ)) → (A → S) → C → A × M → Result (Unit {0}) (CoderError F B) → C → Type 0
EncodesPair encodes is_impossible precision table lent old pair result new =
    EncodesSymbol encodes is_impossible precision (table pair.1) (lent pair.0) old result new

-- The coder makes the step of an entry of the table and returns the entry's symbol. An error comes from the step of an
-- entry or, as `halts` allows, before the coder uses the table.
abbrev pub DecodesSymbol : {C S E : Type 0} → (C → Step → Result (Unit {0}) E → C → Type 0) → (C → E → C → Type 0)
    → ℕ → List (S × ℕ × ℕ) → C → Result S E → C → Type 0
DecodesSymbol {S = S} decodes halts precision table old result new =
    MatchResult result
    (λ symbol. AtEntry precision table symbol (λ step. decodes old step (Ok tt) new))
    (λ e. halts old e new ⊎ ((symbol : S) × AtEntry precision table symbol (λ step. decodes old step (Err e) new)))

-- `DecodesSymbol` for a model: it decodes a symbol under the model's table.
abbrev pub DecodesByModel : {C S M E : Type 0} → (C → Step → Result (Unit {0}) E → C → Type 0) → (C → E → C → Type 0)
    → ℕ → (M → List (S × ℕ × ℕ)) → C → M → Result S E → C → Type 0
DecodesByModel decodes halts precision table old model result new = DecodesSymbol decodes halts precision (table model) old result new

-- Converts the answer of a backend's call to the answer of a coder: an error becomes a `Backend` error.
abbrev pub as_backend : {T F B : Type 0} → Result T B → Result T (CoderError F B)
as_backend (Ok x) = Ok x
as_backend (Err e) = Err (Backend e)

-- The error is a `Backend` error, and the property `holds` is true for the backend's error.
abbrev pub IsBackendError : {F B : Type 0} → CoderError F B → (B → Type 0) → Type 0
IsBackendError (Frontend e) holds = ⊥
IsBackendError (Backend e) holds = holds e

-- Each error of the step comes from the backend: the coder itself refuses no step.
abbrev pub ByBackend : {C F B : Type 0} → (C → Step → Result (Unit {0}) B → C → Type 0)
    → C → Step → Result (Unit {0}) (CoderError F B) → C → Type 0
ByBackend {B = B} steps old step answer new = (result : Result (Unit {0}) B) × steps old step result new × (answer ≡ as_backend result)

-- No step is refused for lack of room.
abbrev pub HasRoom : {C E : Type 0} → (C → Step → Result (Unit {0}) E → C → Type 0) → (E → Type 0) → C → Type 0
HasRoom {C} {E} encodes is_lack_of_room coder =
    (step : Step) (e : E) (new : C) → encodes coder step (Err e) new → is_lack_of_room e → ⊥

-- No step is refused because the data ended, neither before nor after the coder uses the model.
abbrev pub GoesOn : {C E : Type 0} → (C → Step → Result (Unit {0}) E → C → Type 0) → (C → E → C → Type 0) → (E → Type 0) → C → Type 0
GoesOn {C} {E} decodes halts is_end_of_data coder =
    ((step : Step) (e : E) (new : C) → decodes coder step (Err e) new → is_end_of_data e → ⊥)
    × ((e : E) (new : C) → halts coder e new → is_end_of_data e → ⊥)

-- The answer of a backend is never a frontend's error.
pub never_frontend : {T F B : Type 0} (answer : Result T B) (e : F) → ◌≡◌ {A = Result T (CoderError F B)} (Err (Frontend e)) (as_backend answer) → ⊥
never_frontend (Ok x) e is = cc
never_frontend (Err refusal) e is = cc

pub never_backend : {F B : Type 0} (e : F) (refusal : B) → ◌≡◌ {A = CoderError F B} (Frontend e) (Backend refusal) → ⊥
never_backend e refusal is = cc
