-- Contracts of the calls that import or export the words of a chain coder, in compressed, binary or remainders form.
use Rattle.std.specs.Prelude.{◌≡◌, ℕ, ◌<◌, ◌≤◌, List, [], length, map, reverse, Result, OnErr, OnOk}
use Rattle.constriction_chain.specs.Chain.{ChainState}
use Rattle.constriction_chain.specs.Imports.{AreBinaryWords, FromBinary, FromCompressed, FromRemainders, compressed_words}
use Rattle.constriction_base.specs.Writing.{IsOneAbove}
use Rattle.constriction_chain.specs.Words.{remainder_words}
use Rattle.constriction_inputs.specs.Buffers.{Appended, WordBuffer, stack_in}
use Rattle.constriction_calls.specs.ChainCalls.{AreHeads}
use Rattle.constriction_inputs.specs.Refusals.{Asks, Otherwise, NoRefusal, NoMemoryOrSpace}
use Rattle.constriction_calls.specs.declared.chain.ChainHeads.{ChainHeads}
use Rattle.constriction_calls.specs.declared.chain.Form.{Form}
use Rattle.constriction_calls.specs.declared.chain.Form.TheVariants.{InBinary, InCompressed, InRemainders}
use Rattle.constriction_inputs.specs.declared.refusal.Refusal.{Refusal}
use Rattle.constriction_inputs.specs.declared.refusal.Refusal.TheVariants.{InvalidData, WrongLength}
use Rattle.constriction_words.specs.declared.natural.Natural as numbers

-- The state with these heads and the words in use below them. The words are remainders in the form `InRemainders`, and
-- compressed words in the other forms.
abbrev pub heads_over : {Word State : Type 0} → (Word → ℕ) → (State → ℕ) → Form → ChainHeads Word State → List Word → ℕ → ChainState
heads_over number state InRemainders heads words len =
    record { h = number heads.compressed; r = state heads.remainders; compressed = []; remainders = stack_in number words len }
heads_over number state form heads words len =
    record { h = number heads.compressed; r = state heads.remainders; compressed = stack_in number words len; remainders = [] }

-- ---- coders from words
-- Importing the words in this form gives the state `x`.
abbrev pub Begins : Form → ℕ → ℕ → ℕ → List ℕ → ChainState → Type 0
Begins InCompressed w s P words x = FromCompressed w s P words x
Begins InBinary w s P words x = FromBinary w s P words x
Begins InRemainders w s P words x = FromRemainders w s P words x

-- The heads that a caller keeps, and the number of words that stay below them.
pub record HeadsOver (Word State : Type 0) : Type 0 where
  pub heads : ChainHeads Word State
  pub len : ℕ

-- The contract of an import call. `InvalidData` comes if and only if the words are those of no coder in this form.
pub record ChainBegins {Word State : Type 0} (number : Word → ℕ) (state : State → ℕ) (w s P : ℕ) (form : Form) (words : List Word)
    (old new : HeadsOver Word State) (answer : Result (Unit {0}) Refusal) : Type 0 where
  pub begun : OnOk answer (Begins form w s P (map number (reverse words)) (heads_over number state form new.heads words new.len))
  pub within : OnOk answer (new.len ≤ length words)
  pub asked : Asks InvalidData ((x : ChainState) × Begins form w s P (map number (reverse words)) x) (Otherwise NoRefusal) answer
  pub kept : OnErr answer (new ≡ old)

-- `ChainBegins` with the numbers and sizes in bits of two types: of words and of remainders heads. The heads and the
-- number of words below them come first as they are before the call, and then as they are after it.
abbrev pub ChainBeginsBy : {Word State : Type 0} → numbers.Ghosts Word → numbers.Ghosts State → ℕ → Form → List Word
    → ChainHeads Word State → ℕ → ChainHeads Word State → ℕ → Result (Unit {0}) Refusal → Type 0
ChainBeginsBy word state P form words heads len new_heads new_len answer =
    ChainBegins word.number state.number word.BITS state.BITS P form words (record { heads = heads; len = len }) (record { heads = new_heads; len = new_len }) answer

-- ---- words of heads
-- The heads belong to a coder without bits left over.
pub record AreWholeHeads (w s P h r : ℕ) : Type 0 where
  pub heads : AreHeads w s P h r
  pub whole : h ≡ 1

-- The heads belong to a coder without bits left over, and the remainders head is a leading 1 above `m` whole words.
pub record AreBinaryHeads (w s P h r : ℕ) : Type 0 where
  pub heads : AreHeads w s P h r
  pub whole : h ≡ 1
  pub above : (m : ℕ) × IsOneAbove w m r

-- A coder with these heads can be exported in this form.
abbrev pub HaveWords : {Word State : Type 0} → (Word → ℕ) → (State → ℕ) → ℕ → ℕ → ℕ → Form → ChainHeads Word State → Type 0
HaveWords number state w s P InCompressed heads = AreWholeHeads w s P (number heads.compressed) (state heads.remainders)
HaveWords number state w s P InBinary heads = AreBinaryHeads w s P (number heads.compressed) (state heads.remainders)
HaveWords number state w s P InRemainders heads = AreHeads w s P (number heads.compressed) (state heads.remainders)

-- The words are the export of the state `x` in this form.
abbrev pub AreWordsInForm : Form → ℕ → List ℕ → ChainState → Type 0
AreWordsInForm InCompressed w words x = words ≡ compressed_words w x
AreWordsInForm InBinary w words x = AreBinaryWords w words x
AreWordsInForm InRemainders w words x = words ≡ remainder_words w x

-- A list of `n` words has the property `holds`, but the buffer holds only `size` words, which is fewer.
pub record TooShortForWords (size : ℕ) (holds : List ℕ → Type 0) (n : ℕ) : Type 0 where
  pub past : size < n
  pub words : List ℕ
  pub are : holds words
  pub count : length words ≡ n

-- The contract of an export call, which appends the words of the heads to the words in use.
pub record ChainEnds {Word State : Type 0} (number : Word → ℕ) (state : State → ℕ) (w s P : ℕ) (form : Form) (heads : ChainHeads Word State)
    (old new : WordBuffer Word) (answer : Result (Unit {0}) Refusal) : Type 0 where
  pub ended : OnOk answer (AreWordsInForm form w (stack_in number new.words new.len) (heads_over number state form heads old.words old.len))
  pub appended : OnOk answer ((added : List Word) × Appended old.words old.len added new.words new.len)
  pub asked : Asks WrongLength (old.len ≤ length old.words) (Asks InvalidData (HaveWords number state w s P form heads)
      (Otherwise (NoMemoryOrSpace (TooShortForWords (length old.words) (λ words. AreWordsInForm form w words (heads_over number state form heads old.words old.len)))))) answer
  pub kept : OnErr answer (new ≡ old)

-- `ChainEnds` with the numbers and sizes in bits of two types: of words and of remainders heads. The buffer and the
-- number of words in use come first as they are before the call, and then as they are after it.
abbrev pub ChainEndsBy : {Word State : Type 0} → numbers.Ghosts Word → numbers.Ghosts State → ℕ → Form → ChainHeads Word State
    → List Word → ℕ → List Word → ℕ → Result (Unit {0}) Refusal → Type 0
ChainEndsBy word state P form heads words len new_words new_len answer =
    ChainEnds word.number state.number word.BITS state.BITS P form heads (record { words = words; len = len }) (record { words = new_words; len = new_len }) answer
