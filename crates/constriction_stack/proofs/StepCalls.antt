-- What one step of a stack coder that went well does to its state.
use Rattle.std.proofs.Common.{ℕ, Ok, Err, inl, inr}
use Rattle.constriction_base.specs.declared.backends.reading.Holds as holding
use Rattle.constriction_base.specs.declared.backends.writing.WriteWords as writing
use Rattle.constriction_base.specs.Models.{Model}
use Rattle.constriction_stream.specs.Symbols.{EncodesSymbol, ByBackend}
use Rattle.constriction_stack.specs.Ans.{AnsValue, IsNormalized}
use Rattle.constriction_stack.specs.Ans as calls
use Rattle.constriction_stack.specs.Symbols.{Encodes}

module _ {S W B E K F : Type 0} (number : W → ℕ) (holds : holding.Ghosts B W K) (writes : writing.Ghosts B W E) (w s : ℕ) (is_impossible : F → Type 0) where
  -- a step of the coder that went well is an encode of the symbol
  pub encode_of : (model : Model S) (symbol : S) (old new : AnsValue B) → IsNormalized w s old.state
      → EncodesSymbol {F = F} (ByBackend (calls.EncodeCall number holds writes w s)) is_impossible model.precision model.table symbol old (Ok tt) new
      → Encodes w s model symbol old.state new.state
  encode_of model symbol old new v (inl (left, p, has, (Ok u, e, is))) = (left, p, has, e.pushed v)
  encode_of model symbol old new v (inl (left, p, has, (Err x, e, is))) = absurd cc
  encode_of model symbol old new v (inr (never, e, impossible, is, same)) = absurd cc
