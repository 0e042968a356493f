-- The effect of encoding and decoding symbols, each under its own model, on a chain coder's state.
use Rattle.std.specs.Prelude.{◌≡◌, ℕ, List}
use Rattle.std.specs.List.{AllByRecursion}
use Rattle.constriction_base.specs.Steps.{Trace}
use Rattle.constriction_base.specs.Tables.{AtEntry, IsTable}
use Rattle.constriction_base.specs.Models.{Model, Item}
use Rattle.constriction_chain.specs.Chain.{ChainState, IsDecode, IsEncode}

-- Decoding the symbol leads from the old state to the new state, by the step of the symbol's entry.
abbrev pub ChainDecodesOne : {S : Type 0} → ℕ → ℕ → Model S → S → ChainState → ChainState → Type 0
ChainDecodesOne w s model symbol old new = AtEntry model.precision model.table symbol (λ e. IsDecode w s e old new)

-- Encoding the symbol leads from the old state to the new state, by the step of the symbol's entry.
abbrev pub ChainEncodesOne : {S : Type 0} → ℕ → ℕ → Model S → S → ChainState → ChainState → Type 0
ChainEncodesOne w s model symbol old new = AtEntry model.precision model.table symbol (λ e. IsEncode w s e old new)

-- Decoding the items in order leads from the old state to the new state.
abbrev pub ChainDecodesAll : {S : Type 0} → ℕ → ℕ → List (Item S) → ChainState → ChainState → Type 0
ChainDecodesAll w s items old new = Trace (λ item. ChainDecodesOne w s item.model item.symbol) items old new

-- Encoding the items in order leads from the old state to the new state.
abbrev pub ChainEncodesAll : {S : Type 0} → ℕ → ℕ → List (Item S) → ChainState → ChainState → Type 0
ChainEncodesAll w s items old new = Trace (λ item. ChainEncodesOne w s item.model item.symbol) items old new

-- The model has the precision P, and its table partitions the numbers below 2 ^ P.
pub record IsModelAt {S : Type 0} (P : ℕ) (model : Model S) : Type 0 where
  pub level : model.precision ≡ P
  pub lawful : IsTable model.precision model.table

-- Each item's model has the precision P and a lawful table.
abbrev pub AreModelsAt : {S : Type 0} → ℕ → List (Item S) → Type 0
AreModelsAt P items = AllByRecursion (λ item. IsModelAt P item.model) items
