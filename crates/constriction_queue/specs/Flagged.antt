-- Symbols under two models: the first model up to and including the first flag (escape symbol), and then the second.
use Rattle.std.specs.Prelude.{◌≡◌, ℕ, ◌≤◌, ◌^◌, ◌==◌, ◌||◌, Bool, false, List, [], ◌∷◌, ◌++◌, Result, Err, MatchResult, if◌then◌else◌}
use Rattle.constriction_base.specs.Models.{Model, Item, item_of, items_of}
use Rattle.constriction_base.specs.declared.backends.reading.Holds as holding
use Rattle.constriction_base.specs.declared.backends.reading.ReadWords as reading
use Rattle.constriction_base.specs.declared.backends.writing.WriteWords as writing
use Rattle.constriction_base.specs.declared.errors.CoderError.{CoderError}
use Rattle.constriction_base.specs.declared.errors.CoderError.TheVariants as coder_error
use Rattle.constriction_base.specs.declared.errors.DefaultEncoderFrontendError.{DefaultEncoderFrontendError}
use Rattle.constriction_base.specs.declared.errors.DefaultEncoderFrontendError.TheVariants.{ImpossibleSymbol}
use Rattle.constriction_stream.specs.Lists.{StepsAll}
use Rattle.constriction_stream.specs.Symbols.{ByBackend, DecodesSymbol, EncodesSymbol}
use Rattle.constriction_queue.specs.Calls.{DecodeCall, EncodeCall}
use Rattle.constriction_queue.specs.Decoder.{Decoder, quantile_read}
use Rattle.constriction_queue.specs.Encoder.{Encoder}
use Rattle.constriction_queue.specs.declared.decoder.symbols.DecoderFrontendError.{DecoderFrontendError}
use Rattle.constriction_queue.specs.declared.decoder.symbols.DecoderFrontendError.TheVariants as frontend_error

-- The symbols with their models: `first` up to and including the first flag, and `second` after it.
abbrev pub flagged : ℕ → Model ℕ → Model ℕ → List ℕ → List (Item ℕ)
flagged flag first second [] = []
flagged flag first second (symbol ∷ symbols) = item_of first symbol ∷ (if symbol == flag then items_of second symbols else flagged flag first second symbols)

-- Whether the flag is one of the symbols.
abbrev pub has_flag : ℕ → List ℕ → Bool
has_flag flag [] = false
has_flag flag (symbol ∷ symbols) = symbol == flag || has_flag flag symbols

-- The model of the next symbol: `second` if the flag has come, and otherwise `first`.
abbrev pub next_model : Bool → Model ℕ → Model ℕ → Model ℕ
next_model switched first second = if switched then second else first

-- ---- decodes

-- The value of a `FlagSwitch`: its decoder, the flag, and whether the flag was decoded.
pub record Switch (B : Type 0) : Type 0 where
  pub decoder : Decoder B
  pub flag : ℕ
  pub switched : Bool

-- The words encode no symbol of any model with this precision, because the quantile is `2 ^ precision` or more.
abbrev pub NoSymbolFrom : {B : Type 0} → ℕ → ℕ → Decoder B → Type 0
NoSymbolFrom s precision decoder = 2 ^ precision ≤ quantile_read s precision decoder

-- The possible results of decoding one symbol with this model.
abbrev pub DecodesUnder : {Word B E S : Type 0} → (Word → ℕ) → holding.Ghosts B Word S → reading.Ghosts B Word S E → ℕ → ℕ
    → Model ℕ → Decoder B → Result ℕ (CoderError DecoderFrontendError E) → Decoder B → Type 0
DecodesUnder number holds reads w s model old answer new =
    DecodesSymbol (ByBackend (DecodeCall number holds reads w s))
    (λ old error new. (error ≡ coder_error.Frontend frontend_error.InvalidData) × NoSymbolFrom s model.precision old × (new ≡ old))
    model.precision model.table old answer new

-- ---- encodes

-- The possible results of encoding one symbol with its model.
abbrev pub EncodesItem : {A Word B E S : Type 0} → (Word → ℕ) → holding.Ghosts B Word S → writing.Ghosts B Word E → ℕ → ℕ
    → Encoder B → Item A → Result (Unit {0}) (CoderError DefaultEncoderFrontendError E) → Encoder B → Type 0
EncodesItem number holds writes w s old item answer new =
    EncodesSymbol (ByBackend (EncodeCall number holds writes w s)) (λ error. error ≡ ImpossibleSymbol)
    item.model.precision item.model.table item.symbol old answer new

-- The items are coded in order. On an error, exactly the items before the refused item are coded.
abbrev pub StepsToFault : {C A E : Type 0} → (C → A → Result (Unit {0}) E → C → Type 0) → C → List A → Result (Unit {0}) E → C → Type 0
StepsToFault {C} {A} step old items answer new =
    MatchResult answer
    (λ _. StepsAll step old items new)
    (λ e. (coded : List A) × (item : A) × (rest : List A) × (mid : C) × (items ≡ coded ++ item ∷ rest)
    × StepsAll step old coded mid × step mid item (Err e) new)
