-- Contracts of the stack coder's calls: what each call does with the caller's coder, and when it returns each error.
use Rattle.std.specs.Prelude.{◌≡◌, ℕ, ◌+◌, ◌<◌, ◌≤◌, List, [], Result, length, map, reverse, OnErr, OnOk}
use Rattle.constriction_base.specs.Models.{AreKnown, AreModels, Item}
use Rattle.constriction_stack.specs.Ans.{AnsState, IsNormalized, exported}
use Rattle.constriction_base.specs.Writing.{IsOneAbove}
use Rattle.constriction_stack.specs.Binary.{binary_words}
use Rattle.constriction_stack.specs.Symbols.{DecodesAll, EncodesAll}
use Rattle.constriction_inputs.specs.Buffers.{Appended, stack_in}
use Rattle.constriction_inputs.specs.Coded.{AsksFit, Coded, items}
use Rattle.constriction_inputs.specs.Refusals.{Asks, Otherwise, OnlyNoMemory, NoRefusal, NoMemoryOrSpace}
use Rattle.constriction_inputs.specs.declared.refusal.Refusal.{Refusal}
use Rattle.constriction_inputs.specs.declared.refusal.Refusal.TheVariants.{ImpossibleSymbol, InvalidData, WrongLength}
use Rattle.constriction_words.specs.declared.natural.Natural as numbers

-- A coder that a caller keeps: a head, and a buffer whose first `len` words are in use. The last of these is on top.
pub record AnsBuffers (Word State : Type 0) : Type 0 where
  pub head : State
  pub words : List Word
  pub len : ℕ

abbrev pub coder_of : {Word State : Type 0} → State → List Word → ℕ → AnsBuffers Word State
coder_of head words len = record { head = head; words = words; len = len }

-- The state of a kept coder: its head, and its words in use as a list, top word first.
abbrev pub ans_state_of : {Word State : Type 0} → (Word → ℕ) → (State → ℕ) → AnsBuffers Word State → AnsState
ans_state_of number state kept = record { head = state kept.head; words = stack_in number kept.words kept.len }

-- A call appends words to the words in use, and changes nothing else in the buffer.
abbrev pub PutsBehind : {Word State : Type 0} → AnsBuffers Word State → AnsBuffers Word State → Type 0
PutsBehind {Word} old new = (added : List Word) × Appended old.words old.len added new.words new.len

-- ---- symbols
-- The state after encoding the items has `needed` words, but the buffer holds only `room` words, which is fewer.
-- `needed` is the number of old words, plus the number of words that encoding from the head alone writes.
pub record TooShortForItems (w s : ℕ) (items : List (Item ℕ)) (room : ℕ) (old : AnsState) (needed : ℕ) : Type 0 where
  pub short : room < needed
  pub encoded : IsNormalized w s old → (new : AnsState) × EncodesAll w s items old new × (length new.words ≡ needed)
  pub alone : (new : AnsState) × EncodesAll w s items (record { head = old.head; words = [] }) new × (needed ≡ length old.words + length new.words)

-- Encoding the items from the old head alone leads to the new head. The call appends the words that this writes.
abbrev pub PutsItems : {Word State : Type 0} → (Word → ℕ) → (State → ℕ) → ℕ → ℕ → List (Item ℕ) → AnsBuffers Word State → AnsBuffers Word State → Type 0
PutsItems {Word} number state w s items old new = (added : List Word) × Appended old.words old.len added new.words new.len
    × EncodesAll w s items (record { head = state old.head; words = [] }) (record { head = state new.head; words = map number (reverse added) })

-- Encoding the items from the last to the first, from a head and no words, writes the added words and leads to the new
-- head.
pub record CodesAlone {Word State : Type 0} (number : Word → ℕ) (state : State → ℕ) (w s : ℕ) (items : List (Item ℕ)) (head : State)
    (added : List Word) (new_head : State) : Type 0 where
  pub models : AreModels w items
  pub coded : EncodesAll w s (reverse items) (record { head = state head; words = [] }) (record { head = state new_head; words = map number (reverse added) })

-- The contract of an encode call. `old` and `new` are the coder before and after the call, and `answer` is its result.
pub record AnsEncodesList {Word State : Type 0} (number : Word → ℕ) (state : State → ℕ) (w s precision : ℕ) (coded : Coded)
    (old new : AnsBuffers Word State) (answer : Result (Unit {0}) Refusal) : Type 0 where
  -- From a valid state, encoding the items from the last to the first leads to the new state.
  pub put : OnOk answer (IsNormalized w s (ans_state_of number state old)
      → EncodesAll w s (reverse (items precision coded)) (ans_state_of number state old) (ans_state_of number state new))
  -- From every state, the call appends the words that encoding from the head alone writes.
  pub behind : OnOk answer (PutsItems number state w s (reverse (items precision coded)) old new)
  -- The call checks in this order: the words in use are within the buffer, the arguments make items, and each model has
  -- an entry for its symbol.
  pub asked : Asks WrongLength (old.len ≤ length old.words)
      (AsksFit precision coded (Asks ImpossibleSymbol (AreKnown (items precision coded))
      (Otherwise (NoMemoryOrSpace (TooShortForItems w s (reverse (items precision coded)) (length old.words) (ans_state_of number state old)))))) answer
  pub kept : OnErr answer (new ≡ old)

-- The contract of a decode call, which fills a list with decoded symbols. `old` and `new` are the coder before and
-- after the call.
pub record AnsDecodesList {Word State : Type 0} (number : Word → ℕ) (state : State → ℕ) (w s precision : ℕ) (coded : List ℕ → Coded)
    (old new : AnsBuffers Word State) (old_symbols new_symbols : List ℕ) (answer : Result (Unit {0}) Refusal) : Type 0 where
  -- Decoding the items in order leads from the old state to the new state.
  pub taken : OnOk answer (DecodesAll w s (items precision (coded new_symbols)) (ans_state_of number state old) (ans_state_of number state new))
  pub within : OnOk answer ((new.words ≡ old.words) × (new.len ≤ old.len) × (length new_symbols ≡ length old_symbols))
  pub asked : Asks WrongLength (old.len ≤ length old.words) (AsksFit precision (coded old_symbols) (Otherwise OnlyNoMemory)) answer
  pub kept : OnErr answer ((new ≡ old) × (new_symbols ≡ old_symbols))

-- ---- symbols, with the numbers of types
-- `AnsEncodesList` with the numbers and sizes in bits of two types: of words and of heads. The head, the buffer and the
-- number of words in use come first as they are before the call, and then as they are after it.
abbrev pub AnsEncodesListBy : {Word State : Type 0} → numbers.Ghosts Word → numbers.Ghosts State → ℕ → Coded
    → State → List Word → ℕ → State → List Word → ℕ → Result (Unit {0}) Refusal → Type 0
AnsEncodesListBy word state precision coded head words len new_head new_words new_len answer =
    AnsEncodesList word.number state.number word.BITS state.BITS precision coded (coder_of head words len) (coder_of new_head new_words new_len) answer

-- `AnsDecodesList` with the numbers and sizes in bits of two types: of words and of heads. The buffer stays as it is.
abbrev pub AnsDecodesListBy : {Word State : Type 0} → numbers.Ghosts Word → numbers.Ghosts State → ℕ → (List ℕ → Coded)
    → List Word → State → ℕ → State → ℕ → List ℕ → List ℕ → Result (Unit {0}) Refusal → Type 0
AnsDecodesListBy word state precision coded words head len new_head new_len old_symbols new_symbols answer =
    AnsDecodesList word.number state.number word.BITS state.BITS precision coded (coder_of head words len) (coder_of new_head words new_len) old_symbols new_symbols answer

-- ---- words
-- The contract of an import call. It makes the state `makes` of the caller's words, of which the last is on top.
-- `InvalidData` comes if and only if the words don't have the property `holds`.
pub record AnsImports {Word State : Type 0} (number : Word → ℕ) (state : State → ℕ) (makes : List ℕ → AnsState) (holds : List ℕ → Type 0)
    (old new : AnsBuffers Word State) (answer : Result (Unit {0}) Refusal) : Type 0 where
  pub made : OnOk answer (ans_state_of number state new ≡ makes (map number (reverse old.words)))
  pub within : OnOk answer ((new.words ≡ old.words) × (new.len ≤ length new.words))
  pub asked : Asks InvalidData (holds (map number (reverse old.words))) (Otherwise NoRefusal) answer
  pub kept : OnErr answer (new ≡ old)

-- `AnsImports` with the numbers and sizes in bits of two types: of words and of heads. `makes` takes the sizes first.
abbrev pub AnsImportsBy : {Word State : Type 0} → numbers.Ghosts Word → numbers.Ghosts State → (ℕ → ℕ → List ℕ → AnsState) → (List ℕ → Type 0)
    → List Word → State → ℕ → State → ℕ → Result (Unit {0}) Refusal → Type 0
AnsImportsBy word state makes holds words head len new_head new_len answer =
    AnsImports word.number state.number (makes word.BITS state.BITS) holds (coder_of head words len) (coder_of new_head words new_len) answer

-- A state has `needed` words in the form `are`, but the buffer holds only `room` words, which is fewer.
pub record TooShortForExport (are : AnsState → List ℕ → Type 0) (room : ℕ) (old : AnsState) (needed : ℕ) : Type 0 where
  pub short : room < needed
  pub all : List ℕ
  pub is_all : are old all
  pub count : length all ≡ needed

-- The contract of an export call. It appends words, so that all words in use are the state's words in the form `are`.
-- `WrongLength` comes if the words in use aren't within the buffer. `InvalidData` comes next, if the state doesn't have
-- the property `holds`.
pub record AnsExports {Word State : Type 0} (number : Word → ℕ) (state : State → ℕ) (are : AnsState → List ℕ → Type 0) (holds : AnsState → Type 0)
    (old new : AnsBuffers Word State) (answer : Result (Unit {0}) Refusal) : Type 0 where
  pub all : OnOk answer (are (ans_state_of number state old) (stack_in number new.words new.len))
  pub behind : OnOk answer (PutsBehind old new)
  pub asked : Asks WrongLength (old.len ≤ length old.words) (Asks InvalidData (holds (ans_state_of number state old))
      (Otherwise (NoMemoryOrSpace (TooShortForExport are (length old.words) (ans_state_of number state old))))) answer
  pub kept : OnErr answer (new ≡ old)

-- The words are the words below the state's head, and the head's words without leading zero words.
abbrev pub AreCompressed : ℕ → AnsState → List ℕ → Type 0
AreCompressed w state all = all ≡ exported w state

-- The words are the words below the state's head, and the head's bits below its leading 1, as `m` words.
abbrev pub AreBinary : ℕ → AnsState → List ℕ → Type 0
AreBinary w state all = (m : ℕ) × IsOneAbove w m state.head × (all ≡ binary_words w m state)

-- The state has a binary form: the head's bits below its leading 1 make whole words.
abbrev pub HasBinary : ℕ → AnsState → Type 0
HasBinary w state = (m : ℕ) × IsOneAbove w m state.head
