-- The outcomes of an exchange, which decodes one symbol and then encodes another.
use Rattle.std.specs.Prelude.{◌≡◌, ◌-◌, ◌<◌, ◌≤◌, ◌^◌, ◌⊎◌, ℕ, List, [], ◌∷◌, Result, Ok, Err}
use Rattle.constriction_base.specs.Models.{Model}
use Rattle.constriction_base.specs.Steps.{Step}
use Rattle.constriction_base.specs.Tables.{AtEntry, Impossible}
use Rattle.constriction_base.specs.declared.errors.CoderError.{CoderError}
use Rattle.constriction_base.specs.declared.errors.CoderError.TheVariants.{Backend}
use Rattle.constriction_stack.specs.Ans.{AnsState, AnsValue, DecodeCall, EncodeCall}
use Rattle.constriction_stack.specs.Symbols.{Decodes, Encodes}
use Rattle.constriction_stream.specs.Symbols.{ByBackend, DecodesSymbol, EncodesSymbol}
use Rattle.constriction_base.specs.declared.backends.reading.Holds as holding
use Rattle.constriction_base.specs.declared.backends.reading.ReadWords as reading
use Rattle.constriction_base.specs.declared.backends.writing.WriteWords as writing
use Rattle.constriction_base.specs.declared.errors.DefaultEncoderFrontendError.{DefaultEncoderFrontendError}
use Rattle.constriction_base.specs.declared.errors.DefaultEncoderFrontendError.TheVariants as frontend_error
use Rattle.std.specs.declared.convert.Infallible.{Infallible}
use Rattle.constriction_laws.specs.Bounds.{Decode, Encode, IsNetBounded}
use Rattle.constriction_laws.specs.Outcomes.{model_at}
use Rattle.constriction_laws.specs.declared.bounds.words.ExchangeError.{ExchangeError}
use Rattle.constriction_laws.specs.declared.bounds.words.ExchangeError.TheVariants.{LowHead, ImpossibleSymbol, Refused}

-- The head is low: it is below 2 ^ (s - w).
abbrev pub IsLow : ℕ → ℕ → AnsState → Type 0
IsLow w s x = x.head < 2 ^ (s - w)

-- A symbol is decoded, and the head is low neither before nor after the decode.
abbrev pub HighThroughout : {S : Type 0} → ℕ → ℕ → Model S → S → AnsState → AnsState → Type 0
HighThroughout w s model taken old new = (2 ^ (s - w) ≤ old.head) × Decodes w s model taken old new × (2 ^ (s - w) ≤ new.head)

-- The exchange stops at a low head. Either the head is low before the decode, and the state is unchanged. Or it is low
-- only after the decode.
abbrev pub StopsLow : {S : Type 0} → ℕ → ℕ → Model S → AnsState → AnsState → Type 0
StopsLow {S} w s model old new =
    (IsLow w s old × (new ≡ old)) ⊎ ((2 ^ (s - w) ≤ old.head) × (taken : S) × Decodes w s model taken old new × IsLow w s new)

-- The exchange stops after the decode, because the symbol to encode has no entry in the table of the model `on`.
abbrev pub StopsImpossible : {S T : Type 0} → ℕ → ℕ → Model S → Model T → T → AnsState → AnsState → Type 0
StopsImpossible {S} w s off on symbol old new = Impossible on.table symbol × (taken : S) × HighThroughout w s off taken old new

-- The exchange stops at the decode, because the backend refuses a word with an error e of the decode. The state is
-- unchanged.
abbrev pub RefusesOff : {B S D : Type 0} → ℕ → ℕ → (AnsValue B → Result S D → AnsValue B → Type 0) → AnsValue B → AnsValue B → Type 0
RefusesOff {D = D} w s decodes old new = (2 ^ (s - w) ≤ old.state.head) × (new.state ≡ old.state) × (e : D) × decodes old (Err e) new

-- The exchange stops at the encode, because the backend refuses a word with the error e. The state is the state after
-- the decode.
abbrev pub RefusesOn : {B S D F E : Type 0} → ℕ → ℕ → Model S → (AnsValue B → Result S D → AnsValue B → Type 0)
    → (AnsValue B → Result (Unit {0}) (CoderError F E) → AnsValue B → Type 0) → AnsValue B → AnsValue B → Type 0
RefusesOn {B} {S} {E = E} w s off decodes encodes old new =
    (taken : S) × (mid : AnsValue B) × (e : E) × HighThroughout w s off taken old.state new.state × decodes old (Ok taken) mid × encodes mid (Err (Backend e)) new

-- The statement that holds for each error of an exchange.
abbrev pub StopsExchange : Type 0 → Type 0 → Type 0 → ExchangeError → Type 0
StopsExchange low impossible refused LowHead = low
StopsExchange low impossible refused ImpossibleSymbol = impossible
StopsExchange low impossible refused Refused = refused

-- A stack coder over this backend decodes a symbol under this model, or fails with an error of the backend.
abbrev pub DecodesBySteps : {W B K E S : Type 0} → (W → ℕ) → holding.Ghosts B W K → reading.Ghosts B W K E → ℕ → ℕ
    → Model S → AnsValue B → Result S (CoderError Infallible E) → AnsValue B → Type 0
DecodesBySteps number holds reads w s model old answer new =
    DecodesSymbol (ByBackend (DecodeCall number holds reads w s))
    (λ old error new. ⊥) model.precision model.table old answer new

-- A stack coder over this backend encodes the symbol under this model, or fails. The error is an error of the backend,
-- or `ImpossibleSymbol` if the symbol has no entry.
abbrev pub EncodesBySteps : {W B K E S : Type 0} → (W → ℕ) → holding.Ghosts B W K → writing.Ghosts B W E → ℕ → ℕ
    → Model S → S → AnsValue B → Result (Unit {0}) (CoderError DefaultEncoderFrontendError E) → AnsValue B → Type 0
EncodesBySteps number holds writes w s model symbol old answer new =
    EncodesSymbol (ByBackend (EncodeCall number holds writes w s)) (λ error. error ≡ frontend_error.ImpossibleSymbol)
    model.precision model.table symbol old answer new

-- ---- the exchange, by tables of one precision

-- Decoding `taken` and then encoding `symbol` leads from the old state to the new state. The head is low neither before
-- nor after the decode.
abbrev pub Exchanges : {S T : Type 0} → ℕ → ℕ → ℕ → List (S × ℕ × ℕ) → List (T × ℕ × ℕ) → S → T → AnsState → AnsState
    → Type 0
Exchanges w s precision off on taken symbol old new =
    (mid : AnsState) × HighThroughout w s (model_at precision off) taken old mid
    × Encodes w s (model_at precision on) symbol mid new

-- Both symbols have entries in their tables. These entries bound the number of words that the exchange adds
-- (`IsNetBounded`).
abbrev pub IsExchangeBounded : {S T : Type 0} → ℕ → ℕ → ℕ → List (S × ℕ × ℕ) → List (T × ℕ × ℕ) → S → T → AnsState
    → AnsState → Type 0
IsExchangeBounded w s precision off on taken symbol old new = (out put : Step)
    × AtEntry precision off taken (λ step. step ≡ out) × AtEntry precision on symbol (λ step. step ≡ put)
    × IsNetBounded w s (Decode out ∷ Encode put ∷ []) old new

-- The exchange stops with the error `e`: the head is low, `symbol` has no entry, or the backend refuses a word.
abbrev pub NotExchanged : {W B K E F S T : Type 0} → (W → ℕ) → holding.Ghosts B W K → reading.Ghosts B W K E
    → writing.Ghosts B W F → ℕ → ℕ → ℕ → List (S × ℕ × ℕ) → List (T × ℕ × ℕ) → T → AnsValue B → AnsValue B
    → ExchangeError → Type 0
NotExchanged {S = S} number holds reads writes w s precision off on symbol old new e = StopsExchange
    (StopsLow w s (model_at precision off) old.state new.state)
    (StopsImpossible w s (model_at precision off) (model_at precision on) symbol old.state new.state)
    (RefusesOff {S = S} w s (DecodesBySteps number holds reads w s (model_at precision off)) old new
    ⊎ RefusesOn w s (model_at precision off) (DecodesBySteps number holds reads w s (model_at precision off))
    (EncodesBySteps number holds writes w s (model_at precision on) symbol) old new) e
