-- The effect of encoding and decoding symbols, each under its own model, on a stack coder's state.
use Rattle.std.specs.Prelude.{ℕ, List}
use Rattle.constriction_base.specs.Steps.{Trace}
use Rattle.constriction_base.specs.Tables.{AtEntry}
use Rattle.constriction_base.specs.Models.{Model, Item}
use Rattle.constriction_stack.specs.Ans.{AnsState, IsPush, IsPop}

-- Encoding the symbol leads from the old state to the new state: the symbol's entry is pushed.
abbrev pub Encodes : {S : Type 0} → ℕ → ℕ → Model S → S → AnsState → AnsState → Type 0
Encodes w s model symbol old new = AtEntry model.precision model.table symbol (λ e. IsPush w s e old new)

-- Decoding the symbol leads from the old state to the new state. The symbol's entry holds the head's quantile, and the
-- entry is popped.
abbrev pub Decodes : {S : Type 0} → ℕ → ℕ → Model S → S → AnsState → AnsState → Type 0
Decodes w s model symbol old new = AtEntry model.precision model.table symbol (λ e. IsPop w s e old new)

-- Encoding the items in order leads from the old state to the new state.
abbrev pub EncodesAll : {S : Type 0} → ℕ → ℕ → List (Item S) → AnsState → AnsState → Type 0
EncodesAll w s items old new = Trace (λ item. Encodes w s item.model item.symbol) items old new

-- Decoding the items in order leads from the old state to the new state.
abbrev pub DecodesAll : {S : Type 0} → ℕ → ℕ → List (Item S) → AnsState → AnsState → Type 0
DecodesAll w s items old new = Trace (λ item. Decodes w s item.model item.symbol) items old new
