-- The output of the command `chain-split` for an input text, and the condition for each fault.
use Rattle.std.specs.Prelude.{◌≡◌, ℕ, ◌^◌, ◌<◌, ◌⊎◌, List, [], ◌∷◌, ◌++◌, length, reverse, ⊤}
use Rattle.std.specs.Int.Digits.{digits_of}
use Rattle.constriction_base.specs.Tables.{AtEntry}
use Rattle.constriction_base.specs.Steps.{Trace}
use Rattle.constriction_chain.specs.Chain.{ChainState, IsChain, IsDecode}
use Rattle.constriction_chain.specs.Walk.{NeedsWord}
use Rattle.constriction_chain.specs.Words.{remainder_words}
use Rattle.constriction_commands.specs.Lines.{line_of}
use Rattle.constriction_commands.specs.Inputs.{TextHasWords, NoWords}
use Rattle.constriction_commands.specs.Coding.{EndsWithZero}
use Rattle.constriction_commands.specs.declared.fault.Fault.{Fault}
use Rattle.constriction_commands.specs.declared.fault.Fault.TheVariants.{NoChain, OutOfData, OutOfMemory}

-- The words stand for this state of a chain coder, with no bits left over.
-- The words are read from the last one on. The words read first are the digits of the remainders head.
pub record IsChainOf (words : List ℕ) (state : ChainState) : Type 0 where
  pub whole : state.h ≡ 1
  pub none : state.remainders ≡ []
  pub chain : IsChain 32 64 24 state
  pub are : reverse words ≡ digits_of (2 ^ 32) state.r ++ state.compressed

-- The words stand for no chain coder: the last word is 0, there is no word, or the only word is below 2 ^ 8.
abbrev pub IsNoChain : List ℕ → Type 0
IsNoChain words = EndsWithZero words ⊎ (words ≡ []) ⊎ ((word : ℕ) × (word < 2 ^ 8) × (words ≡ word ∷ []))

-- Decodes of the symbols, one after the other, lead from the old state to the new one.
abbrev pub ChainDecodes : List (ℕ × ℕ × ℕ) → List ℕ → ChainState → ChainState → Type 0
ChainDecodes table symbols old new = Trace (λ symbol from to. AtEntry 24 table symbol (λ step. IsDecode 32 64 step from to)) symbols old new

-- The answer is three lines: the symbols, the words left, and the remainders with both heads on top.
pub record IsChainSplit (text answer : List ℕ) : Type 0 where
  pub table : List (ℕ × ℕ × ℕ)
  pub count : ℕ
  pub words : List ℕ
  pub symbols : List ℕ
  pub first : ChainState
  pub last : ChainState
  pub prefix : List ℕ
  pub suffix : List ℕ
  pub given : TextHasWords text table count words
  pub begun : IsChainOf words first
  pub decoded : ChainDecodes table symbols first last
  pub counted : length symbols ≡ count
  pub prefix_is : reverse prefix ≡ last.compressed
  pub suffix_is : reverse suffix ≡ remainder_words 32 last
  pub printed : answer ≡ (line_of symbols ++ line_of prefix) ++ line_of suffix

-- Decoding `count` symbols fails: after fewer symbols, the coder needs a word, and no word is left.
abbrev pub ChainFails : List (ℕ × ℕ × ℕ) → ℕ → ChainState → Fault → Type 0
ChainFails table count first (OutOfData error) =
    (symbols : List ℕ) × (last : ChainState) × ChainDecodes table symbols first last × (length symbols < count) × NeedsWord 32 24 last.h × (last.compressed ≡ [])
ChainFails table count first OutOfMemory = ⊤
ChainFails table count first fault = ⊥

-- The command fails: the text gives no table, count and words, the words stand for no coder, or the words run out.
abbrev pub ChainSplitFails : List ℕ → Fault → Type 0
ChainSplitFails text NoChain = (table : List (ℕ × ℕ × ℕ)) × (count : ℕ) × (words : List ℕ) × TextHasWords text table count words × IsNoChain words
ChainSplitFails text (OutOfData error) =
    (table : List (ℕ × ℕ × ℕ)) × (count : ℕ) × (words : List ℕ) × (first : ChainState) × TextHasWords text table count words × IsChainOf words first
    × ChainFails table count first (OutOfData error)
ChainSplitFails text fault = NoWords text fault
