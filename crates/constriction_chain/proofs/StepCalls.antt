-- What one step of a chain coder that went well does to its state.
use Rattle.std.proofs.Common.{ℕ, Ok, inl, inr}
use Rattle.constriction_base.specs.declared.backends.reading.Holds as holding
use Rattle.constriction_base.specs.declared.backends.reading.ReadWords as reading
use Rattle.constriction_base.specs.declared.backends.writing.WriteWords as writing
use Rattle.constriction_base.specs.Models.{Model}
use Rattle.constriction_stream.specs.Symbols.{EncodesSymbol}
use Rattle.constriction_chain.specs.Chain.{ChainValue}
use Rattle.constriction_chain.specs.Steps.{EncodeCall}
use Rattle.constriction_chain.specs.Symbols.{ChainEncodesOne}
use Rattle.constriction_chain.specs.declared.errors.EncoderFrontendError.{EncoderFrontendError}

module _ {S W C R O E F : Type 0} (number : W → ℕ) (compressed_holds : holding.Ghosts C W O) (compressed_writes : writing.Ghosts C W E)
    (remainders_holds : holding.Ghosts R W O) (remainders_reads : reading.Ghosts R W O F) (w s : ℕ) (is_impossible : EncoderFrontendError → Type 0) where
  -- a step of the coder that went well is an encode of the symbol
  pub encode_of : (model : Model S) (symbol : S) (old new : ChainValue C R) → remainders_holds.is_list
      → EncodesSymbol (EncodeCall number compressed_holds compressed_writes remainders_holds remainders_reads w s) is_impossible model.precision model.table symbol old (Ok tt) new
      → ChainEncodesOne w s model symbol old.state new.state
  encode_of model symbol old new list (inl (left, p, has, call)) = (left, p, has, call.outcome.encoded list)
  encode_of model symbol old new list (inr (never, e, impossible, is, same)) = absurd cc
