-- Contracts of the parts of the chain coder's encode call: on one item, on all items, and on a caller's coder.
use Rattle.std.specs.Prelude.{◌≡◌, ◌⊎◌, ℕ, ◌*◌, ◌<◌, ◌≤◌, List, [], length, reverse, Result, IfErr, OnErr, OnOk}
use Rattle.constriction_base.specs.Models.{AreKnown, Item, Knows}
use Rattle.constriction_base.specs.Steps.{Step}
use Rattle.constriction_chain.specs.Chain.{ChainState, IsEncode, least}
use Rattle.constriction_chain.specs.Symbols.{ChainEncodesOne, ChainEncodesAll}
use Rattle.constriction_inputs.specs.Buffers.{Appended}
use Rattle.constriction_inputs.specs.Items.{HasAt}
use Rattle.constriction_inputs.specs.Refusals.{NoMemorySpaceOrData}
use Rattle.constriction_inputs.specs.declared.refusal.Refusal.{Refusal}
use Rattle.constriction_inputs.specs.declared.refusal.Refusal.TheVariants.{ImpossibleSymbol, NoMemory, OutOfData}
use Rattle.constriction_calls.specs.ChainCalls.{ChainBuffers, TooShortForCompressed, LacksRemainders, NeedsRemainders, chain_state_of}

-- The effect of encoding one interval. `NoMemory` means that the coder's buffer for new words is full. `OutOfData` means
-- that the coder needs a word of the remainders, and none is left.
pub record PutsStep (w s : ℕ) (step : Step) (old new : ChainState) (answer : Result (Unit {0}) Refusal) : Type 0 where
  pub put : OnOk answer (IsEncode w s step old new)
  pub refused : IfErr answer (λ e. (e ≡ NoMemory) ⊎ ((e ≡ OutOfData) × (old.r < step.p * least w s step.precision) × (old.remainders ≡ [])))

-- The effect of encoding the item at one position.
pub record PutsItem (w s : ℕ) (items : List (Item ℕ)) (place : ℕ) (old new : ChainState) (answer : Result (Unit {0}) Refusal) : Type 0 where
  pub put : OnOk answer (HasAt items place (λ item. ChainEncodesOne w s item.model item.symbol old new))
  pub refused : IfErr answer (λ e. (e ≡ NoMemory) ⊎ ((e ≡ ImpossibleSymbol) × HasAt items place (λ item. Knows item.model item.symbol → ⊥))
      ⊎ ((e ≡ OutOfData) × HasAt items place (NeedsRemainders w s old) × (old.remainders ≡ [])))

-- The effect of encoding all items, from the last to the first.
pub record PutsBackItems (w s : ℕ) (items : List (Item ℕ)) (old new : ChainState) (answer : Result (Unit {0}) Refusal) : Type 0 where
  pub put : OnOk answer (ChainEncodesAll w s (reverse items) old new)
  pub refused : IfErr answer (λ e. (e ≡ NoMemory) ⊎ ((e ≡ ImpossibleSymbol) × (AreKnown items → ⊥)) ⊎ ((e ≡ OutOfData) × LacksRemainders w s (reverse items) old))

-- The effect of encoding all items with a caller's coder. If a model has no entry for its symbol, the refusal may be
-- `ImpossibleSymbol` or another one.
pub record ChainEncodesItems {Word State : Type 0} (number : Word → ℕ) (state : State → ℕ) (w s : ℕ) (items : List (Item ℕ)) (old new : ChainBuffers Word State)
    (answer : Result (Unit {0}) Refusal) : Type 0 where
  pub put : OnOk answer (ChainEncodesAll w s (reverse items) (chain_state_of number state old) (chain_state_of number state new))
  pub taken : OnOk answer ((new.remainders ≡ old.remainders) × (new.remainders_len ≤ old.remainders_len))
  pub appended : OnOk answer ((added : List Word) × Appended old.compressed old.compressed_len added new.compressed new.compressed_len)
  pub refused : IfErr answer (λ e. ((e ≡ ImpossibleSymbol) × (AreKnown items → ⊥))
      ⊎ NoMemorySpaceOrData (LacksRemainders w s (reverse items) (chain_state_of number state old)) (TooShortForCompressed w s (reverse items) (chain_state_of number state old) (length old.compressed)) e)
  pub kept : OnErr answer (new ≡ old)
