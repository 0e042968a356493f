-- Contracts of the chain coder's calls: what each call does with the caller's coder, and when it returns each error.
use Rattle.std.specs.Prelude.{◌≡◌, ℕ, ◌*◌, ◌<◌, ◌≤◌, List, ◌∷◌, ◌++◌, [], length, reverse, take, Result, OnErr, OnOk}
use Rattle.constriction_base.specs.Models.{AreKnown, Item}
use Rattle.constriction_base.specs.Tables.{AtEntry}
use Rattle.constriction_base.specs.Windows.{IsInWindow}
use Rattle.constriction_chain.specs.Chain.{ChainState, least}
use Rattle.constriction_chain.specs.Symbols.{ChainDecodesAll, ChainEncodesAll}
use Rattle.constriction_chain.specs.Walk.{NeedsWord}
use Rattle.constriction_inputs.specs.Buffers.{Appended, stack_in}
use Rattle.constriction_inputs.specs.Coded.{AsksFit, Coded, items}
use Rattle.constriction_inputs.specs.Refusals.{Asks, NoMemorySpaceOrData, Otherwise}
use Rattle.constriction_calls.specs.declared.chain.ChainHeads.{ChainHeads}
use Rattle.constriction_inputs.specs.declared.refusal.Refusal.{Refusal}
use Rattle.constriction_inputs.specs.declared.refusal.Refusal.TheVariants.{ImpossibleSymbol, InvalidData, WrongLength}
use Rattle.constriction_words.specs.declared.natural.Natural as numbers

-- ---- states
-- The chain coder's state with the compressed head `h`, the remainders head `r`, and the words in use of two buffers.
abbrev pub chain_in : {W : Type 0} → (W → ℕ) → ℕ → ℕ → List W → ℕ → List W → ℕ → ChainState
chain_in number h r compressed len remainders len' = record {
  h = h;
  r = r;
  compressed = stack_in number compressed len;
  remainders = stack_in number remainders len';
}

-- A chain coder that a caller keeps: the heads, and two buffers with their numbers of words in use.
pub record ChainBuffers (Word State : Type 0) : Type 0 where
  pub heads : ChainHeads Word State
  pub compressed : List Word
  pub compressed_len : ℕ
  pub remainders : List Word
  pub remainders_len : ℕ

abbrev pub chain_buffers : {Word State : Type 0} → ChainHeads Word State → List Word → ℕ → List Word → ℕ → ChainBuffers Word State
chain_buffers heads compressed len remainders len' = record { heads = heads; compressed = compressed; compressed_len = len; remainders = remainders; remainders_len = len' }

abbrev pub chain_state_of : {Word State : Type 0} → (Word → ℕ) → (State → ℕ) → ChainBuffers Word State → ChainState
chain_state_of number state kept =
    chain_in number (number kept.heads.compressed) (state kept.heads.remainders) kept.compressed kept.compressed_len kept.remainders kept.remainders_len

-- The heads that a caller keeps are those of the state `x`.
abbrev pub AreHeadsOf : {Word State : Type 0} → (Word → ℕ) → (State → ℕ) → ChainState → ChainHeads Word State → Type 0
AreHeadsOf number state x heads = (number heads.compressed ≡ x.h) × (state heads.remainders ≡ x.r)

-- The words in use are within the buffers.
abbrev pub AreInUse : {Word State : Type 0} → ChainBuffers Word State → Type 0
AreInUse kept = (kept.compressed_len ≤ length kept.compressed) × (kept.remainders_len ≤ length kept.remainders)

-- A chain coder can have the heads `h` and `r`: `h` isn't 0, and `r` is within its normalization interval.
pub record AreHeads (w s P h r : ℕ) : Type 0 where
  pub some : 0 < h
  pub window : IsInWindow w (least w s P) r

abbrev pub ValidHeads : {Word State : Type 0} → (Word → ℕ) → (State → ℕ) → ℕ → ℕ → ℕ → ChainHeads Word State → Type 0
ValidHeads number state w s P heads = AreHeads w s P (number heads.compressed) (state heads.remainders)

-- ---- ends
-- The compressed words end too early: after `done` of `count` symbols, a decode needs a word, and no word is left.
pub record LacksCompressed (w s P : ℕ) (items : List ℕ → List (Item ℕ)) (count : ℕ) (old : ChainState) : Type 0 where
  pub symbols : List ℕ
  pub done : ℕ
  pub last : ChainState
  pub count_is : length symbols ≡ count
  pub fewer : done < count
  pub taken : ChainDecodesAll w s (take done (items symbols)) old last
  pub needs : NeedsWord w P last.h
  pub ended : last.compressed ≡ []

-- Encoding the item onto this state reads a word of the remainders.
abbrev pub NeedsRemainders : ℕ → ℕ → ChainState → Item ℕ → Type 0
NeedsRemainders w s state item = AtEntry item.model.precision item.model.table item.symbol (λ e. state.r < e.p * least w s e.precision)

-- The remainders end too early: after the items `first`, encoding `item` needs a word, and no word is left.
pub record LacksRemainders (w s : ℕ) (items : List (Item ℕ)) (old : ChainState) : Type 0 where
  pub first : List (Item ℕ)
  pub item : Item ℕ
  pub others : List (Item ℕ)
  pub last : ChainState
  pub parts : items ≡ first ++ item ∷ others
  pub put : ChainEncodesAll w s first old last
  pub needs : NeedsRemainders w s last item
  pub ended : last.remainders ≡ []

-- After decoding `count` symbols there are `n` words of remainders, but their buffer holds only `size` words.
pub record TooShortForRemainders (w s : ℕ) (items : List ℕ → List (Item ℕ)) (count : ℕ) (old : ChainState) (size n : ℕ) : Type 0 where
  pub symbols : List ℕ
  pub new : ChainState
  pub count_is : length symbols ≡ count
  pub taken : ChainDecodesAll w s (items symbols) old new
  pub is : n ≡ length new.remainders
  pub past : size < n

-- After encoding the items there are `n` compressed words, but their buffer holds only `size` words.
pub record TooShortForCompressed (w s : ℕ) (items : List (Item ℕ)) (old : ChainState) (size n : ℕ) : Type 0 where
  pub new : ChainState
  pub put : ChainEncodesAll w s items old new
  pub is : n ≡ length new.compressed
  pub past : size < n

-- ---- calls
-- The errors of an encode call whose lengths and models fit: `InvalidData` if no coder has these heads, then
-- `ImpossibleSymbol` if a model has no entry for its symbol, and then `OutOfData`, `NoSpace` or `NoMemory`.
abbrev pub AsksToEncode : {Word State : Type 0} → (Word → ℕ) → (State → ℕ) → ℕ → ℕ → ℕ → List (Item ℕ) → ChainBuffers Word State → Result (Unit {0}) Refusal → Type 0
AsksToEncode number state w s P items old = Asks InvalidData (ValidHeads number state w s P old.heads) (Asks ImpossibleSymbol (AreKnown items)
    (Otherwise (NoMemorySpaceOrData (LacksRemainders w s (reverse items) (chain_state_of number state old)) (TooShortForCompressed w s (reverse items) (chain_state_of number state old) (length old.compressed)))))

-- The contract of an encode call. `old` and `new` are the coder before and after the call, and `answer` is its result.
pub record ChainEncodesList {Word State : Type 0} (number : Word → ℕ) (state : State → ℕ) (w s P : ℕ) (coded : Coded) (old new : ChainBuffers Word State)
    (answer : Result (Unit {0}) Refusal) : Type 0 where
  -- The call encodes the items from the last to the first.
  pub put : OnOk answer (ChainEncodesAll w s (reverse (items P coded)) (chain_state_of number state old) (chain_state_of number state new))
  pub taken : OnOk answer ((new.remainders ≡ old.remainders) × (new.remainders_len ≤ old.remainders_len))
  pub appended : OnOk answer ((added : List Word) × Appended old.compressed old.compressed_len added new.compressed new.compressed_len)
  pub asked : Asks WrongLength (AreInUse old) (AsksFit P coded (AsksToEncode number state w s P (items P coded) old)) answer
  pub kept : OnErr answer (new ≡ old)

-- `ChainEncodesList` with the numbers and sizes in bits of two types: of words and of remainders heads.
abbrev pub ChainEncodesListBy : {Word State : Type 0} → numbers.Ghosts Word → numbers.Ghosts State → ℕ → Coded
    → ChainBuffers Word State → ChainBuffers Word State → Result (Unit {0}) Refusal → Type 0
ChainEncodesListBy word state P coded old new answer = ChainEncodesList word.number state.number word.BITS state.BITS P coded old new answer

-- The errors of a decode call whose lengths and models fit: `InvalidData` if no coder has these heads, and then
-- `OutOfData`, `NoSpace` or `NoMemory`.
abbrev pub AsksToDecode : {Word State : Type 0} → (Word → ℕ) → (State → ℕ) → ℕ → ℕ → ℕ → (List ℕ → List (Item ℕ)) → ℕ → ChainBuffers Word State → Result (Unit {0}) Refusal → Type 0
AsksToDecode number state w s P items count old = Asks InvalidData (ValidHeads number state w s P old.heads)
    (Otherwise (NoMemorySpaceOrData (LacksCompressed w s P items count (chain_state_of number state old)) (TooShortForRemainders w s items count (chain_state_of number state old) (length old.remainders))))

-- The contract of a decode call, which fills a list with decoded symbols. `old` and `new` are the coder before and
-- after the call.
pub record ChainDecodesList {Word State : Type 0} (number : Word → ℕ) (state : State → ℕ) (w s P : ℕ) (coded : List ℕ → Coded) (old new : ChainBuffers Word State)
    (old_symbols new_symbols : List ℕ) (answer : Result (Unit {0}) Refusal) : Type 0 where
  -- The call decodes the items in order.
  pub taken : OnOk answer (ChainDecodesAll w s (items P (coded new_symbols)) (chain_state_of number state old) (chain_state_of number state new))
  pub count : OnOk answer (length new_symbols ≡ length old_symbols)
  pub fewer : OnOk answer ((new.compressed ≡ old.compressed) × (new.compressed_len ≤ old.compressed_len))
  pub appended : OnOk answer ((added : List Word) × Appended old.remainders old.remainders_len added new.remainders new.remainders_len)
  pub asked : Asks WrongLength (AreInUse old)
      (AsksFit P (coded old_symbols) (AsksToDecode number state w s P (λ symbols. items P (coded symbols)) (length old_symbols) old)) answer
  pub kept : OnErr answer ((new ≡ old) × (new_symbols ≡ old_symbols))

-- `ChainDecodesList` with the numbers and sizes in bits of two types: of words and of remainders heads.
abbrev pub ChainDecodesListBy : {Word State : Type 0} → numbers.Ghosts Word → numbers.Ghosts State → ℕ → (List ℕ → Coded)
    → ChainBuffers Word State → ChainBuffers Word State → List ℕ → List ℕ → Result (Unit {0}) Refusal → Type 0
ChainDecodesListBy word state P coded old new old_symbols new_symbols answer =
    ChainDecodesList word.number state.number word.BITS state.BITS P coded old new old_symbols new_symbols answer
