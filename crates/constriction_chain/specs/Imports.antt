-- The states that a chain coder's imports make, and the words that whole coders (without bits left over) export.
use Rattle.std.specs.Prelude.{◌≡◌, ℕ, ◌^◌, List, [], ◌++◌}
use Rattle.std.specs.Int.Digits.{digits_of}
use Rattle.constriction_base.specs.Digits.{fixed_digits}
use Rattle.constriction_base.specs.Writing.{IsOneAbove}
use Rattle.constriction_chain.specs.Chain.{ChainState, IsChain}
use Rattle.constriction_chain.specs.Words.{remainder_words}

-- The words that a whole coder exports: the words of the remainders head without leading zeros, and then the compressed
-- words.
abbrev pub compressed_words : ℕ → ChainState → List ℕ
compressed_words w x = digits_of (2 ^ w) x.r ++ x.compressed

-- The words that a whole coder exports in binary form. The remainders head is a 1 above m words. These m words come
-- first, and the compressed words follow.
abbrev pub AreBinaryWords : ℕ → List ℕ → ChainState → Type 0
AreBinaryWords w words x = (m : ℕ) × IsOneAbove w m x.r × (words ≡ fixed_digits (2 ^ w) m x.r ++ x.compressed)

-- The state of a coder right after an import of compressed words: no bits are left over, and there are no remainders
-- below the head.
pub record IsWhole (w s P : ℕ) (x : ChainState) : Type 0 where
  pub chain : IsChain w s P x
  pub h : x.h ≡ 1
  pub remainders : x.remainders ≡ []

-- Importing the compressed words leads to the state x: it is whole, and its export is these words.
abbrev pub FromCompressed : ℕ → ℕ → ℕ → List ℕ → ChainState → Type 0
FromCompressed w s P words x = IsWhole w s P x × (words ≡ compressed_words w x)

-- Importing the words in binary form leads to the state x: it is whole, and its export in binary form is these words.
abbrev pub FromBinary : ℕ → ℕ → ℕ → List ℕ → ChainState → Type 0
FromBinary w s P words x = IsWhole w s P x × AreBinaryWords w words x

-- Importing the words as remainders leads to the valid state x, which has no compressed words.
pub record FromRemainders (w s P : ℕ) (words : List ℕ) (x : ChainState) : Type 0 where
  pub chain : IsChain w s P x
  pub compressed : x.compressed ≡ []
  pub are : words ≡ remainder_words w x
