-- Proofs that one encode and one decode of the stack coder undo each other, as the trait `StepsUndo` requires.
use Rattle.std.proofs.Common.{ℕ, sym, arith}
use Rattle.constriction_base.specs.Steps.{IsSizes}
use Rattle.constriction_stack.specs.Ans.{AnsState, IsNormalized}
use Rattle.constriction_stack.proofs.Pushing.{valid_pop}
use Rattle.constriction_base.specs.Models.{Model, IsModel}
use Rattle.constriction_stack.specs.Symbols.{Encodes, Decodes}
use Rattle.constriction_base.proofs.Entering.{entry_is_step}

-- The sizes of a coder: words of w bits, and heads of s bits.
pub record Sizes : Type 0 where
  pub w : ℕ
  pub s : ℕ
  pub are : IsSizes w s

-- A decode undoes an encode.
pub decode_back : {S : Type 0} (w s : ℕ) (model : Model S) (symbol : S) (old new : AnsState)
    → Encodes w s model symbol old new → Decodes w s model symbol new old
decode_back w s model symbol old new i = (i.0, i.1, i.2, (i.3.holds, sym i.3.back))

-- An encode undoes a decode from a valid state.
pub encode_back : {S : Type 0} (w s : ℕ) (model : Model S) (symbol : S) (old new : AnsState)
    → IsNormalized w s old → Decodes w s model symbol old new → Encodes w s model symbol new old
encode_back w s model symbol old new v i = (i.0, i.1, i.2, record { valid = v; holds = i.3.0; back = sym i.3.1 })

pub decoded_valid : {S : Type 0} (w s : ℕ) (model : Model S) (symbol : S) (old new : AnsState)
    → IsSizes w s → IsModel w model → IsNormalized w s old → Decodes w s model symbol old new → IsNormalized w s new
decoded_valid w s model symbol old new z m v i =
    let step = entry_is_step w model.precision model.precision i.0 i.1 model.table symbol m.lawful i.2 (m.some_bits, omega arith) m.within_word in
    rw i.3.1 (valid_pop w s (record { precision = model.precision; left = i.0; p = i.1 }) z step old v i.3.0)
