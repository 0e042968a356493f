-- Contracts of the calls for many stack coders: each coder does what a call of `constriction_calls::ans` for this coder
-- alone does. Row `j` of every list belongs to coder `j`.
use Rattle.std.specs.Prelude.{◌≡◌, ℕ, ◌+◌, ◌*◌, ◌/◌, ◌<◌, ◌≤◌, List, [], Result, Ok, drop, length, reverse, slice_index, slice_index_or, take, OnErr, OnOk}
use Rattle.constriction_base.specs.Models.{AreKnown, AreModels, Item, pairs_of}
use Rattle.constriction_stack.specs.Ans.{AnsState}
use Rattle.constriction_interleaved.specs.Rows.{row}
use Rattle.constriction_stack.specs.Lanes.{lane}
use Rattle.constriction_stack.specs.Symbols.{DecodesAll, EncodesAll}
use Rattle.constriction_calls.specs.AnsCalls.{AnsBuffers, AnsDecodesList, AnsEncodesList, TooShortForItems, ans_state_of, coder_of}
use Rattle.constriction_inputs.specs.Buffers.{Appended}
use Rattle.constriction_inputs.specs.Coded.{AsksFit, Coded, items}
use Rattle.constriction_inputs.specs.Refusals.{Asks, Otherwise, OnlyNoMemory, NoMemoryOrSpace}
use Rattle.constriction_inputs.specs.declared.refusal.Refusal.{Refusal}
use Rattle.constriction_inputs.specs.declared.refusal.Refusal.TheVariants.{ImpossibleSymbol, WrongLength}
use Rattle.constriction_words.specs.declared.natural.Natural as numbers

-- The coders that a caller keeps: their heads, a row of words for each coder, one row after another, and the number of
-- words that each coder has in use.
pub record LaneBuffers (Word State : Type 0) : Type 0 where
  pub heads : List State
  pub words : List Word
  pub lens : List ℕ

abbrev pub lanes_of : {Word State : Type 0} → List State → List Word → List ℕ → LaneBuffers Word State
lanes_of heads words lens = record { heads = heads; words = words; lens = lens }

-- The number of coders, and the number of words in a row.
abbrev pub lane_count : {Word State : Type 0} → LaneBuffers Word State → ℕ
lane_count kept = length kept.heads

abbrev pub width_of : {Word State : Type 0} → LaneBuffers Word State → ℕ
width_of kept = length kept.words / length kept.heads

-- Coder `j` alone: its head, its row of words, and its number of words in use. `d` is the head if there is no coder `j`.
abbrev pub coder_at : {Word State : Type 0} → ℕ → State → LaneBuffers Word State → ℕ → AnsBuffers Word State
coder_at width d kept j = coder_of (slice_index_or kept.heads j d) (row width j kept.words) (slice_index kept.lens j)

-- The items of row `j`, where each row has `count` items, and the same requirements on the caller's arguments.
abbrev pub row_of : ℕ → ℕ → Coded → Coded
row_of count j coded = record {
  items_at = λ precision. row count j (items precision coded);
  lengths_fit = coded.lengths_fit;
  intervals_fit = coded.intervals_fit;
  weights_fit = coded.weights_fit;
}

-- The lengths match for `n` coders: there are `n` numbers of words in use, and `words` words and `symbols` symbols make
-- `n` rows each. The words in use of each coder are within its row.
pub record AreLanes (n words : ℕ) (lens : List ℕ) (symbols : ℕ) : Type 0 where
  pub counted : length lens ≡ n
  pub word_rows : words ≡ n * (words / n)
  pub symbol_rows : symbols ≡ n * (symbols / n)
  pub within : (j : ℕ) → j < n → slice_index lens j ≤ words / n

-- A call changes no length.
pub record SameLengths {Word State : Type 0} (old new : LaneBuffers Word State) : Type 0 where
  pub heads : length new.heads ≡ length old.heads
  pub words : length new.words ≡ length old.words
  pub lens : length new.lens ≡ length old.lens

-- ---- decoding
-- The contract of a call that decodes a row of symbols from each coder. `old` and `new` are the coders before and after
-- the call, and `answer` is its result.
pub record LanesDecodeList {Word State : Type 0} (number : Word → ℕ) (state : State → ℕ) (w s precision : ℕ) (coded : List ℕ → Coded)
    (old new : LaneBuffers Word State) (old_symbols new_symbols : List ℕ) (answer : Result (Unit {0}) Refusal) : Type 0 where
  -- The call does for coder `j` what a call for coder `j` alone does. The items of that call are row `j` of all items.
  pub each : OnOk answer ((j : ℕ) → j < lane_count old → (d : State)
      → AnsDecodesList number state w s precision (λ symbols. row_of (length old_symbols / lane_count old) j (coded new_symbols))
      (coder_at (width_of old) d old j) (coder_at (width_of old) d new j)
      (row (length old_symbols / lane_count old) j old_symbols) (row (length old_symbols / lane_count old) j new_symbols) (Ok tt))
  pub lengths : OnOk answer (SameLengths old new × (new.words ≡ old.words) × (length new_symbols ≡ length old_symbols))
  pub asked : Asks WrongLength (AreLanes (lane_count old) (length old.words) old.lens (length old_symbols))
      (AsksFit precision (coded old_symbols) (Otherwise OnlyNoMemory)) answer
  pub kept : OnErr answer ((new ≡ old) × (new_symbols ≡ old_symbols))

-- Decoding row `j` of the symbols with the tables from place `j * count` on leads coder `j` from its old state to its new
-- state.
abbrev pub DecodesRow : {W V : Type 0} → (W → ℕ) → (V → ℕ) → ℕ → ℕ → ℕ → List (List (ℕ × ℕ × ℕ)) → ℕ → ℕ → List W → List V → List ℕ → List V → List ℕ → List ℕ → ℕ → Type 0
DecodesRow {W} {V} number state w s precision tables width count words heads lens new_heads new_lens symbols j =
    (d : V) → DecodesAll w s (pairs_of precision (λ table. table) (row count j symbols) (drop (j * count) tables))
    (lane number state (slice_index_or heads j d) (row width j words) (slice_index lens j))
    (lane number state (slice_index_or new_heads j d) (row width j words) (slice_index new_lens j))
    × (slice_index new_lens j ≤ slice_index lens j)

-- `DecodesRow` holds for each of the first `n` coders.
abbrev pub DecodesRows : {W V : Type 0} → (W → ℕ) → (V → ℕ) → ℕ → ℕ → ℕ → List (List (ℕ × ℕ × ℕ)) → ℕ → ℕ → List W → List V → List ℕ → List V → List ℕ → List ℕ → ℕ → Type 0
DecodesRows number state w s precision tables width count words heads lens new_heads new_lens symbols n =
    (j : ℕ) → j < n → DecodesRow number state w s precision tables width count words heads lens new_heads new_lens symbols j

-- ---- encoding
-- Encoding the items from the last to the first from the head `head` alone leads to the head `new_head`, and writes the
-- first `len` words of `words`.
pub record CodesRow {W V : Type 0} (number : W → ℕ) (state : V → ℕ) (w s : ℕ) (items : List (Item ℕ)) (head new_head : V) (words : List W) (len : ℕ) : Type 0 where
  pub models : AreModels w items
  pub coded : EncodesAll w s (reverse items) (record { head = state head; words = [] }) (lane number state new_head words len)
  pub within : len ≤ length words

-- `CodesRow` holds for each of the first `n` coders, which have the rows of `count` items and words.
abbrev pub CodesRows : {W V : Type 0} → (W → ℕ) → (V → ℕ) → ℕ → ℕ → List (Item ℕ) → ℕ → List V → List V → List W → List ℕ → ℕ → Type 0
CodesRows {W} {V} number state w s items count heads new_heads words lens n =
    (j : ℕ) → j < n → (d : V) → CodesRow number state w s (row count j items) (slice_index_or heads j d) (slice_index_or new_heads j d) (row count j words) (slice_index lens j)

-- The words in use of row `j` of the new words are those of the old row and the first words of row `j` of `added`. The
-- rows of words have `width` words, and the rows of added words have `count` words, of which `counts` says how many count.
abbrev pub AppendsRows : {W : Type 0} → ℕ → ℕ → List W → List ℕ → List W → List ℕ → List W → List ℕ → ℕ → Type 0
AppendsRows width count words lens added counts new_words new_lens n =
    (j : ℕ) → j < n → Appended (row width j words) (slice_index lens j) (take (slice_index counts j) (row count j added)) (row width j new_words) (slice_index new_lens j)

-- The greatest sum of two items at the same index, among the first `n`. It is 0 if `n` is 0.
pub record IsGreatestSum (lens counts : List ℕ) (n greatest : ℕ) : Type 0 where
  pub each : (j : ℕ) → j < n → slice_index lens j + slice_index counts j ≤ greatest
  pub one : 0 < greatest → (j : ℕ) × (j < n) × (slice_index lens j + slice_index counts j ≡ greatest)

-- Encoding the items from the head of `old` alone writes so many words that a row of `needed` words has room for all
-- words of the coder.
abbrev pub FitsRow : ℕ → ℕ → List (Item ℕ) → AnsState → ℕ → Type 0
FitsRow w s items old needed =
    (new : AnsState) × EncodesAll w s items (record { head = old.head; words = [] }) new × (length old.words + length new.words ≤ needed)

-- Rows of `width` words are too short. With rows of `needed` words, each coder has room, and one coder needs as many.
pub record TooShortRows {Word State : Type 0} (number : Word → ℕ) (state : State → ℕ) (w s : ℕ) (items : List (Item ℕ)) (count : ℕ)
    (old : LaneBuffers Word State) (needed : ℕ) : Type 0 where
  pub one : (j : ℕ) × (j < lane_count old) × ((d : State)
      → TooShortForItems w s (reverse (row count j items)) (width_of old) (ans_state_of number state (coder_at (width_of old) d old j)) needed)
  pub each : (j : ℕ) → j < lane_count old → (d : State)
      → FitsRow w s (reverse (row count j items)) (ans_state_of number state (coder_at (width_of old) d old j)) needed

-- The contract of a call that encodes a row of items onto each coder. There are `count` items. `old` and `new` are the
-- coders before and after the call, and `answer` is its result.
pub record LanesEncodeList {Word State : Type 0} (number : Word → ℕ) (state : State → ℕ) (w s precision count : ℕ) (coded : Coded)
    (old new : LaneBuffers Word State) (answer : Result (Unit {0}) Refusal) : Type 0 where
  -- The call does for coder `j` what a call for coder `j` alone does. The items of that call are row `j` of all items.
  pub each : OnOk answer ((j : ℕ) → j < lane_count old → (d : State)
      → AnsEncodesList number state w s precision (row_of (count / lane_count old) j coded)
      (coder_at (width_of old) d old j) (coder_at (width_of old) d new j) (Ok tt))
  pub lengths : OnOk answer (SameLengths old new)
  pub asked : Asks WrongLength (AreLanes (lane_count old) (length old.words) old.lens count) (AsksFit precision coded
      (Asks ImpossibleSymbol (AreKnown (items precision coded))
      (Otherwise (NoMemoryOrSpace (TooShortRows number state w s (items precision coded) (count / lane_count old) old))))) answer
  pub kept : OnErr answer (new ≡ old)

-- ---- with the numbers of types
-- `LanesDecodeList` with the numbers and sizes in bits of two types: of words and of heads. The words stay as they are.
abbrev pub LanesDecodeListBy : {Word State : Type 0} → numbers.Ghosts Word → numbers.Ghosts State → ℕ → (List ℕ → Coded)
    → List Word → List State → List ℕ → List State → List ℕ → List ℕ → List ℕ → Result (Unit {0}) Refusal → Type 0
LanesDecodeListBy word state precision coded words heads lens new_heads new_lens symbols new_symbols answer =
    LanesDecodeList word.number state.number word.BITS state.BITS precision coded (lanes_of heads words lens) (lanes_of new_heads words new_lens) symbols new_symbols answer

-- `LanesEncodeList` with the numbers and sizes in bits of two types: of words and of heads.
abbrev pub LanesEncodeListBy : {Word State : Type 0} → numbers.Ghosts Word → numbers.Ghosts State → ℕ → ℕ → Coded
    → List State → List Word → List ℕ → List State → List Word → List ℕ → Result (Unit {0}) Refusal → Type 0
LanesEncodeListBy word state precision count coded heads words lens new_heads new_words new_lens answer =
    LanesEncodeList word.number state.number word.BITS state.BITS precision count coded (lanes_of heads words lens) (lanes_of new_heads new_words new_lens) answer
