-- What list calls of a chain coder do, in the words of the laws.
use Rattle.std.proofs.Common.{ℕ, List, [], ◌∷◌, Ok, map, ap}
use Rattle.constriction_base.specs.declared.errors.CoderError.{CoderError}
use Rattle.constriction_base.specs.Models.{Model, Item, pairs_of}
use Rattle.constriction_base.specs.Steps.{Trace}
use Rattle.constriction_base.specs.Tables.{AtEntry}
use Rattle.constriction_base.specs.declared.backends.reading.Holds as holding
use Rattle.constriction_base.specs.declared.backends.reading.ReadWords as reading
use Rattle.constriction_base.specs.declared.backends.writing.WriteWords as writing
use Rattle.constriction_stream.specs.Lists.{StepsAll}
use Rattle.constriction_stream.specs.Symbols.{EncodesSymbol}
use Rattle.constriction_chain.specs.Chain.{ChainValue}
use Rattle.constriction_chain.specs.Steps.{DecodeCall, EncodeCall}
use Rattle.constriction_chain.specs.Symbols.{AreModelsAt, ChainDecodesOne, ChainDecodesAll, ChainEncodesAll, IsModelAt}
use Rattle.constriction_chain.specs.declared.errors.BackendError.{BackendError}
use Rattle.constriction_chain.specs.declared.errors.EncoderFrontendError.{EncoderFrontendError}
use Rattle.constriction_chain.proofs.StepCalls.{encode_of}

-- ---- encodes
module _ {S W C R O E F : Type 0} (number : W → ℕ) (compressed_holds : holding.Ghosts C W O) (compressed_writes : writing.Ghosts C W E)
    (remainders_holds : holding.Ghosts R W O) (remainders_reads : reading.Ghosts R W O F) (w s : ℕ) (is_impossible : EncoderFrontendError → Type 0) where
  -- so is a list of them: what was given lends a symbol, or a pair, that stands for an item
  pub encodes_of : {A T : Type 0} (lent : A → T) (item : T → Item S) (xs : List A) (old new : ChainValue C R) → remainders_holds.is_list
      → StepsAll {E = CoderError EncoderFrontendError (BackendError E F)} (λ old x answer new. EncodesSymbol (EncodeCall number compressed_holds compressed_writes remainders_holds remainders_reads w s) is_impossible
      (item (lent x)).model.precision (item (lent x)).model.table (item (lent x)).symbol old answer new) old xs new
      → ChainEncodesAll w s (map item (map lent xs)) old.state new.state
  encodes_of lent item [] old new list all = ap (λ (c : ChainValue C R). c.state) all
  encodes_of lent item (x ∷ xs) old new list all =
      (all.0.state, encode_of number compressed_holds compressed_writes remainders_holds remainders_reads w s is_impossible (item (lent x)).model (item (lent x)).symbol old all.0 list all.1, encodes_of lent item xs all.0 new list all.2)

-- ---- decodes
module _ {S W C R O E F : Type 0} (number : W → ℕ) (compressed_holds : holding.Ghosts C W O) (compressed_reads : reading.Ghosts C W O E)
    (remainders_holds : holding.Ghosts R W O) (remainders_writes : writing.Ghosts R W F) (w s : ℕ) where
  -- a step of the coder that went well is a decode of the symbol
  abbrev Given : Model S → S → ChainValue C R → ChainValue C R → Type 0
  Given model symbol old new =
      AtEntry model.precision model.table symbol (λ step. DecodeCall number compressed_holds compressed_reads remainders_holds remainders_writes w s old step (Ok tt) new)

  pub decode_of : (model : Model S) (symbol : S) (old new : ChainValue C R) → compressed_holds.is_list → Given model symbol old new → ChainDecodesOne w s model symbol old.state new.state
  decode_of model symbol old new list (left, p, has, call) = (left, p, has, call.outcome.decoded list)

  -- so is a list of them, each at the item that stands for what was given
  pub decodes_of : {T : Type 0} (item : T → Item S) (xs : List T) (old new : ChainValue C R) → compressed_holds.is_list → Trace (λ x. Given (item x).model (item x).symbol) xs old new
      → ChainDecodesAll w s (map item xs) old.state new.state
  decodes_of item [] old new list all = ap (λ (c : ChainValue C R). c.state) all
  decodes_of item (x ∷ xs) old new list all =
      (all.0.state, decode_of (item x).model (item x).symbol old all.0 list all.1, decodes_of item xs all.0 new list all.2)

-- symbols under one model
pub pairs_at : {S M : Type 0} (P : ℕ) (table : M → List (S × ℕ × ℕ)) (xs : List S) (ms : List M) → ((m : M) → IsModelAt P (record { precision = P; table = table m })) → AreModelsAt P (pairs_of P table xs ms)
pairs_at P table [] ms at = tt
pairs_at P table (x ∷ xs) [] at = tt
pairs_at P table (x ∷ xs) (m ∷ ms) at = (at m, pairs_at P table xs ms at)
