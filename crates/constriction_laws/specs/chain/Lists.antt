-- Shared premises and conclusions of the laws about lists of decodes and encodes of the chain coder. The parameter
-- `holds` is what a law concludes from the premises.
use Rattle.std.specs.Prelude.{◌≡◌, ℕ, List, ◌++◌, reverse}
use Rattle.constriction_base.specs.Models.{Item}
use Rattle.constriction_chain.specs.Chain.{ChainState, IsChain, IsSized}
use Rattle.constriction_chain.specs.Imports.{FromRemainders, IsWhole}
use Rattle.constriction_chain.specs.Symbols.{AreModelsAt, ChainEncodesAll, ChainDecodesAll}
use Rattle.constriction_chain.specs.Words.{remainder_words}

-- Behind decodes of items under lawful models, from a state of a coder, this holds.
abbrev pub AfterChainDecodes : {S : Type 0} → ℕ → ℕ → ℕ → List (Item S) → ChainState → ChainState → Type 0 → Type 0
AfterChainDecodes w s P items old new holds =
    IsSized w s P → AreModelsAt P items → IsChain w s P old → ChainDecodesAll w s items old new → holds

-- From states that read the same bits and words this holds.
abbrev pub FromSameBits : ChainState → ChainState → Type 0 → Type 0
FromSameBits one other holds = one.h ≡ other.h → one.compressed ≡ other.compressed → holds

-- The items that were taken off can be put back to a coder of the remainders, which stand over these words.
abbrev pub CanBePutBack : {S : Type 0} → ℕ → ℕ → ℕ → List (Item S) → List ℕ → ChainState → Type 0
CanBePutBack w s P items below after =
    (start last : ChainState) × FromRemainders w s P (remainder_words w after ++ below) start
    × ChainEncodesAll w s (reverse items) start last

-- Where items are taken off a coder that is made so, and put back to one of the remainders over these words, no bits
-- are left over, these words are the remainders, and this holds.
abbrev pub ComeBackOver : {S : Type 0} → ℕ → ℕ → ℕ → List (Item S) → List ℕ → Type 0 → ChainState → ChainState
    → ChainState → ChainState → Type 0 → Type 0
ComeBackOver w s P items below made x y z last holds =
    IsSized w s P → AreModelsAt P items → made → ChainDecodesAll w s items x y
    → FromRemainders w s P (remainder_words w y ++ below) z → ChainEncodesAll w s (reverse items) z last
    → (last.h ≡ 1) × (last.remainders ≡ below) × holds

-- Where items were taken off a whole coder, and the words are its remainders over others, this holds.
abbrev pub AfterWholeDecodes : {S : Type 0} → ℕ → ℕ → ℕ → List (Item S) → List ℕ → ChainState → ChainState → List ℕ → Type 0
    → Type 0
AfterWholeDecodes w s P items words x after below holds =
    IsWhole w s P x → ChainDecodesAll w s items x after → words ≡ remainder_words w after ++ below → holds
