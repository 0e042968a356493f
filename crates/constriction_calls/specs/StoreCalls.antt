-- Contracts of the store calls: what each call does with the caller's words and index, and when it returns each error.
use Rattle.std.specs.Prelude.{◌≡◌, ℕ, ◌-◌, ◌<◌, ◌≤◌, ◌^◌, List, [], ◌∷◌, Result, OnErr, OnOk, drop, length, map, sum, take}
use Rattle.constriction_base.specs.Models.{AreKnown, items_of}
use Rattle.constriction_store.specs.Stores.{Entry, HoldsChunk, HoldsChunks, IsBuilt, entry_of}
use Rattle.constriction_inputs.specs.Refusals.{Asks, Otherwise, NoMemoryOrSpace, NoMemoryOrInvalid}
use Rattle.constriction_inputs.specs.Weights.{IsTotal, weights_model}
use Rattle.constriction_inputs.specs.declared.refusal.Refusal.{Refusal}
use Rattle.constriction_inputs.specs.declared.refusal.Refusal.TheVariants.{ImpossibleSymbol, InvalidData, WrongLength, WrongWeights}

-- ---- chunks, and where they begin
-- Cuts the symbols into chunks of the given lengths, in order.
abbrev pub chunks_by : List ℕ → List ℕ → List (List ℕ)
chunks_by symbols [] = []
chunks_by symbols (len ∷ lengths) = take len symbols ∷ chunks_by (drop len symbols) lengths

-- Makes an index from lists: each entry has a position, the lower end and length of an interval, and a chunk length.
-- The index is as long as the shortest list.
abbrev pub entries_by : List ℕ → List ℕ → List ℕ → List ℕ → List Entry
entries_by (place ∷ places) (lower ∷ lowers) (range ∷ ranges) (len ∷ lengths) =
    entry_of place lower range len ∷ entries_by places lowers ranges lengths
entries_by places lowers ranges lengths = []

-- The buffers of a store: an index, and words. The first `len` words are the store's.
pub record StoreBuffers (Word State : Type 0) : Type 0 where
  pub positions : List ℕ
  pub lowers : List State
  pub ranges : List State
  pub words : List Word
  pub len : ℕ

-- Makes one value of the buffers of a store.
abbrev pub store_in : {Word State : Type 0} → List ℕ → List State → List State → List Word → ℕ → StoreBuffers Word State
store_in positions lowers ranges words len = record { positions = positions; lowers = lowers; ranges = ranges; words = words; len = len }

-- The index that the buffers hold, for chunks of the given lengths.
abbrev pub store_index_of : {Word State : Type 0} → (State → ℕ) → List ℕ → StoreBuffers Word State → List Entry
store_index_of state lengths kept = entries_by kept.positions (map state kept.lowers) (map state kept.ranges) lengths

-- The words of the store: the first `len` words of the buffer.
abbrev pub store_words_of : {Word State : Type 0} → (Word → ℕ) → StoreBuffers Word State → List ℕ
store_words_of number kept = map number (take kept.len kept.words)

-- ---- builds
-- The chunk lengths add up to the number of symbols, which is at most 1048576. Each list of the index has one item for
-- each chunk.
pub record FitStore (symbols : ℕ) (lengths : List ℕ) (positions lowers ranges : ℕ) : Type 0 where
  pub positions_are : positions ≡ length lengths
  pub lowers_are : lowers ≡ length lengths
  pub ranges_are : ranges ≡ length lengths
  pub all : sum lengths ≡ symbols
  pub few : symbols ≤ 1048576

-- The chunk lengths, the number of symbols and the caller's index lists make a store.
abbrev pub ValidIndex : {Word State : Type 0} → List ℕ → List ℕ → StoreBuffers Word State → Type 0
ValidIndex symbols lengths kept = FitStore (length symbols) lengths (length kept.positions) (length kept.lowers) (length kept.ranges)

-- The store of the chunks has `needed` words, but the buffer holds only `size` words, which is fewer.
pub record TooShortForStore (w s precision : ℕ) (weights : List ℕ) (chunks : List (List ℕ)) (size needed : ℕ) : Type 0 where
  pub less : size < needed
  pub index : List Entry
  pub words : List ℕ
  pub built : IsBuilt w s (weights_model precision weights) chunks index words
  pub count : needed ≡ length words

-- The contract of a build call. `old` and `new` are the buffers before and after the call, and `answer` is its result.
pub record StoreBuilds {Word State : Type 0} (number : Word → ℕ) (state : State → ℕ) (w s precision : ℕ) (weights symbols lengths : List ℕ)
    (old new : StoreBuffers Word State) (answer : Result (Unit {0}) Refusal) : Type 0 where
  -- The buffers hold the store of the chunks.
  pub built : OnOk answer (IsBuilt w s (weights_model precision weights) (chunks_by symbols lengths) (store_index_of state lengths new) (store_words_of number new))
  -- Decoding at the entry of each chunk gives the chunk's symbols.
  pub chunks : OnOk answer (HoldsChunks w s (weights_model precision weights) (store_words_of number new) (store_index_of state lengths new) (chunks_by symbols lengths))
  -- The store's words are within the buffer, and the buffer's words after them are unchanged.
  pub within : OnOk answer (new.len ≤ length new.words)
  pub behind : OnOk answer (drop new.len new.words ≡ drop new.len old.words)
  pub asked : Asks WrongLength (ValidIndex symbols lengths old) (Asks WrongWeights (IsTotal precision weights)
      (Asks ImpossibleSymbol (AreKnown (items_of (weights_model precision weights) symbols))
      (Otherwise (NoMemoryOrSpace (TooShortForStore w s precision weights (chunks_by symbols lengths) (length old.words)))))) answer
  pub kept : OnErr answer (new ≡ old)

-- ---- look-ups
-- The contract of a look-up call, which fills a list with the symbols of the chunk at one entry.
pub record StoreDecodesList {State : Type 0} (state : State → ℕ) (w s precision : ℕ) (weights words : List ℕ) (place : ℕ) (lower range : State)
    (old new : List ℕ) (answer : Result (Unit {0}) Refusal) : Type 0 where
  -- The new symbols are those of the chunk at the entry.
  pub ok : OnOk answer (HoldsChunk w s (weights_model precision weights) words (entry_of place (state lower) (state range) (length old)) new)
  -- The call checks in this order: the position is within the words, the weights add up to 2^precision, and the
  -- interval is at least 2^(s - w) long. After these checks, `InvalidData` comes only if the words encode no chunk of
  -- this length at the entry.
  pub asked : Asks WrongLength (place ≤ length words) (Asks WrongWeights (IsTotal precision weights) (Asks InvalidData (2 ^ (s - w) ≤ state range)
      (Otherwise (NoMemoryOrInvalid ((symbols : List ℕ) → HoldsChunk w s (weights_model precision weights) words (entry_of place (state lower) (state range) (length old)) symbols → ⊥))))) answer
  pub kept : OnErr answer (new ≡ old)
