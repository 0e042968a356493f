-- The reasons why a chain coder stops decoding symbols or encoding them back, and its state after a round trip.
use Rattle.std.specs.Prelude.{◌≡◌, ℕ, ◌*◌, ◌+◌, ◌<◌, ◌⊎◌, ⊤, List, [], ◌∷◌, ◌++◌, Result, length}
use Rattle.constriction_base.specs.Steps.{Step}
use Rattle.constriction_base.specs.Models.{Item}
use Rattle.constriction_base.specs.Tables.{AtEntry, Impossible}
use Rattle.constriction_base.specs.declared.errors.CoderError.{CoderError}
use Rattle.constriction_base.specs.declared.errors.CoderError.TheVariants.{Frontend, Backend}
use Rattle.constriction_laws.specs.Outcomes.{Reasons, StopsAmong}
use Rattle.constriction_laws.specs.declared.errors.RoundTripError.{RoundTripError}
use Rattle.constriction_laws.specs.declared.errors.Stopped.TheVariants.{NoMemory, Refused}
use Rattle.constriction_chain.specs.Chain.{ChainState, least}
use Rattle.constriction_chain.specs.Imports.{AreBinaryWords, FromRemainders}
use Rattle.constriction_chain.specs.Symbols.{ChainDecodesAll, ChainEncodesAll}
use Rattle.constriction_chain.specs.Walk.{NeedsWord}
use Rattle.constriction_chain.specs.declared.errors.BackendError.{BackendError}
use Rattle.constriction_chain.specs.declared.errors.EncoderFrontendError.{EncoderFrontendError}
use Rattle.constriction_chain.specs.declared.errors.EncoderFrontendError.TheVariants.{OutOfRemainders, ImpossibleSymbol}
use Rattle.constriction_laws.specs.declared.chain.errors.PutBackError.{PutBackError}
use Rattle.constriction_laws.specs.declared.chain.errors.PutBackError.TheVariants as put

-- ---- decodes that end early

-- The coder decodes `taken` symbols. The next decode needs a compressed word, and none is left.
pub record Ended {S : Type 0} (w s P : ℕ) (items : List S → List (Item S)) (taken : ℕ) (old new : ChainState) : Type 0 where
  pub given : List S
  pub count : length given ≡ taken
  pub taken_off : ChainDecodesAll w s (items given) old new
  pub needs : NeedsWord w P new.h
  pub none : new.compressed ≡ []

-- The coder decodes only `taken` of `amt` symbols. If the backend's `is_list` holds, no compressed word is left for the
-- next symbol.
abbrev pub EndsEarly : {S : Type 0} → Type 0 → ℕ → ℕ → ℕ → (List S → List (Item S)) → ℕ → ChainState → ℕ → ChainState → Type 0
EndsEarly is_list w s P items amt old taken new = (taken < amt) × (is_list → Ended w s P items taken old new)

-- The coder decodes `amt` symbols. If the backend's `is_list` holds, the decodes lead from the old state to the new
-- one.
abbrev pub ChainDecodedList : {S : Type 0} → Type 0 → ℕ → ℕ → (List S → List (Item S)) → ℕ → ChainState → ChainState → Type 0
ChainDecodedList {S} is_list w s items amt old new = (given : List S) × (length given ≡ amt) × (is_list → ChainDecodesAll w s (items given) old new)

-- A list of decodes stops early. Either a backend refuses a word of the next decode, or there is no memory for the
-- symbols.
abbrev pub RefusedAmong : {C S M F B : Type 0} → (C → Step → Result (Unit {0}) (CoderError F B) → C → Type 0)
    → (C → CoderError F B → C → Type 0) → ℕ → (M → List (S × ℕ × ℕ)) → List M → C → C → Type 0
RefusedAmong {S = S} {B = B} decodes halts precision table models old new =
    ((taken : ℕ) × (e : B) × StopsAmong {S = S} decodes halts precision table models taken old (Refused (Backend e)) new)
    ⊎ StopsAmong {S = S} decodes halts precision table models 0 old NoMemory new

-- The only possible errors are `Refused` and `OutOfData(count)`. If the error is `OutOfData(count)`, the statement
-- `ended count` holds.
abbrev pub OnlyEnds : (ℕ → Type 0) → RoundTripError → Type 0
OnlyEnds ended e = Reasons ⊥ ⊥ ⊥ ended e

-- ---- encodes that end early

-- The items before one item are encoded. The reason `why` stops the encode of that item.
abbrev pub StopsBefore : {S : Type 0} → ℕ → ℕ → List (Item S) → (Item S → Type 0) → ChainState → ChainState → Type 0
StopsBefore {S} w s items why old new = (before after : List (Item S)) × (item : Item S) × (items ≡ before ++ item ∷ after) × ChainEncodesAll w s before old new × why item

-- The item's symbol has no entry in its table.
abbrev pub IsImpossible : {S : Type 0} → Item S → Type 0
IsImpossible item = Impossible item.model.table item.symbol

-- The encode of the item needs a word of the remainders, and none is left.
abbrev pub LacksWord : {S : Type 0} → ℕ → ℕ → ChainState → Item S → Type 0
LacksWord w s x item = AtEntry item.model.precision item.model.table item.symbol (λ e. x.r < e.p * least w s e.precision) × (x.remainders ≡ [])

-- For each error of a list of encodes, the reason that holds. A backend's error has no reason.
abbrev pub NotEncoded : {S E F : Type 0} → ℕ → ℕ → List (Item S) → ChainState → CoderError EncoderFrontendError (BackendError E F) → ChainState → Type 0
NotEncoded w s items old (Frontend ImpossibleSymbol) new = StopsBefore w s items IsImpossible old new
NotEncoded w s items old (Frontend OutOfRemainders) new = StopsBefore w s items (LacksWord w s new) old new
NotEncoded w s items old (Backend e) new = ⊤

-- For each error, the reason why the items aren't encoded onto a coder that is imported from these remainders.
abbrev pub NotPutBack : {S : Type 0} → ℕ → ℕ → ℕ → List ℕ → List (Item S) → Type 0 → PutBackError → Type 0
NotPutBack w s P words items unequal put.InvalidRemainders = (x : ChainState) → FromRemainders w s P words x → ⊥
NotPutBack w s P words items unequal put.UnequalCounts = unequal
NotPutBack w s P words items unequal put.ImpossibleSymbol = (x y : ChainState) × FromRemainders w s P words x × StopsBefore w s items IsImpossible x y
NotPutBack w s P words items unequal put.OutOfRemainders = (x y : ChainState) × FromRemainders w s P words x × StopsBefore w s items (LacksWord w s y) x y
NotPutBack w s P words items unequal put.NoMemory = ⊤

-- ---- round trip over the remainders

-- The words begin with the export of the state x in binary form. The words `others` follow.
abbrev pub BeginInBinary : ℕ → List ℕ → ChainState → List ℕ → Type 0
BeginInBinary w words x others = (written : List ℕ) × AreBinaryWords w written x × (words ≡ written ++ others)

-- The coder is back at the state x, with two differences. The words `below` lie under its remainders head, and the
-- words `prefix` are missing at the end of its compressed words.
abbrev pub ComesBackOver : ChainState → List ℕ → List ℕ → ChainState → Type 0
ComesBackOver x below prefix last = (last.h ≡ 1) × (last.r ≡ x.r) × (last.remainders ≡ below) × (x.compressed ≡ last.compressed ++ prefix)
