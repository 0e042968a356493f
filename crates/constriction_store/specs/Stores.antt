-- The index and the words of a store, and the chunks that the words hold at the index's entries.
use Rattle.std.specs.Prelude.{◌≡◌, ℕ, ◌+◌, ◌/◌, ◌^◌, ◌<◌, ◌≤◌, List, [], ◌∷◌, length, slice_index, slice_index_or}
use Rattle.std.specs.List.{AllByRecursion}
use Rattle.constriction_base.specs.Models.{Model, items_of}
use Rattle.constriction_queue.specs.Range.{Run, offset, initial}
use Rattle.constriction_queue.specs.SelfDelimiting.{SelfDelimits}
use Rattle.constriction_queue.specs.States.{IsPosition, lower_of, range_of}
use Rattle.constriction_queue.specs.declared.state.RangeCoderState.{RangeCoderState}
use Rattle.constriction_queue.specs.Symbols.{FindsAll, NarrowsAll, model_by}
use Rattle.constriction_store.specs.Chunks.{chunk_in}

-- ---- the index

-- The position of a chunk in the words, and its number of symbols.
pub record Entry : Type 0 where
  pub place : ℕ
  pub lower : ℕ
  pub range : ℕ
  pub len : ℕ

abbrev pub entry_of : ℕ → ℕ → ℕ → ℕ → Entry
entry_of place lower range len = record { place = place; lower = lower; range = range; len = len }

-- An item of an index as an entry.
abbrev pub entry_at : {Word State WordNonZero StateNonZero : Type 0} {word_bits : _} {word : _} {state_bits : _} {state : _} → ℕ × RangeCoderState Word State WordNonZero StateNonZero word_bits word state_bits state × ℕ → Entry
entry_at item = entry_of item.0 (lower_of item.1) (range_of item.1) item.2

-- The entry of a chunk, or an empty entry past the last one.
abbrev pub entry_in : List Entry → ℕ → Entry
entry_in index i = slice_index_or index i (entry_of 0 0 0 0)

-- No entry begins past `count` words.
abbrev pub EntriesWithin : ℕ → List Entry → Type 0
EntriesWithin count index = AllByRecursion (λ e. e.place ≤ count) index

-- The number of symbols of all entries.
abbrev pub total_of : List Entry → ℕ
total_of [] = 0
total_of (entry ∷ entries) = entry.len + total_of entries

-- The index fits `count` words, and counts at most 1048576 symbols.
pub record IsIndex (count : ℕ) (index : List Entry) : Type 0 where
  pub places : EntriesWithin count index
  pub few : total_of index ≤ 1048576

-- ---- the store

-- The value of a store: the numbers of its words, its index, and its model.
pub record Stored (M : Type 0) : Type 0 where
  pub words : List ℕ
  pub index : List Entry
  pub model : M

-- The run at a position: its interval after `place` words.
abbrev pub run_from : ℕ → ℕ → ℕ → Run
run_from place lower range = record { low = lower; range = range; moves = place }

-- The run from which the symbols of an entry are read.
abbrev pub run_at : Entry → Run
run_at entry = run_from entry.place entry.lower entry.range

-- Decoding the words from the entry, each symbol under the model, returns these symbols and ends at this run.
abbrev pub FindsAt : ℕ → ℕ → List ℕ → Model ℕ → Entry → List ℕ → Run → Type 0
FindsAt w s words model entry symbols last = FindsAll w s words (items_of model symbols) (run_at entry) last

-- The lists have the same words from one place to another.
abbrev pub Agree : List ℕ → List ℕ → ℕ → ℕ → Type 0
Agree words others from to = (i : ℕ) → from ≤ i → i < to → slice_index others i ≡ slice_index words i

-- The words hold these symbols at the entry: decoding from there, each under the model, returns exactly them.
abbrev pub HoldsChunk : ℕ → ℕ → Model ℕ → List ℕ → Entry → List ℕ → Type 0
HoldsChunk w s model words entry symbols =
    (length symbols ≡ entry.len) × ((last : Run) × FindsAll w s words (items_of model symbols) (run_at entry) last)

-- No symbol is read from this run, because the quantile is outside the model's precision.
abbrev pub HoldsNoSymbol : ℕ → ℕ → Model ℕ → List ℕ → Run → Type 0
HoldsNoSymbol w s model words run = 2 ^ model.precision ≤ offset w s words run / (run.range / 2 ^ model.precision)

-- The words hold no complete chunk at the entry: after fewer symbols than the entry states, no symbol can be decoded.
abbrev pub HoldsNoChunk : ℕ → ℕ → Model ℕ → List ℕ → Entry → Type 0
HoldsNoChunk w s model words entry =
    (symbols : List ℕ) × (run : Run) × FindsAll w s words (items_of model symbols) (run_at entry) run
    × (length symbols < entry.len) × HoldsNoSymbol w s model words run

-- The words hold each of the chunks at its entry, and there are no other entries.
pub record HoldsChunks (w s : ℕ) (model : Model ℕ) (words : List ℕ) (index : List Entry) (chunks : List (List ℕ)) : Type 0 where
  pub count : length index ≡ length chunks
  pub each : (i : ℕ) → i < length chunks → HoldsChunk w s model words (entry_in index i) (chunk_in chunks i)

-- The store holds these symbols as the chunk with this number.
abbrev pub StoreHoldsChunk : {M : Type 0} → ℕ → ℕ → ℕ → (M → List (ℕ × ℕ × ℕ)) → Stored M → ℕ → List ℕ → Type 0
StoreHoldsChunk w s precision table store i symbols =
    HoldsChunk w s (model_by precision table store.model) store.words (entry_in store.index i) symbols

-- The store holds these chunks in order, and no others.
abbrev pub StoreHoldsChunks : {M : Type 0} → ℕ → ℕ → ℕ → (M → List (ℕ × ℕ × ℕ)) → Stored M → List (List ℕ) → Type 0
StoreHoldsChunks w s precision table store chunks =
    HoldsChunks w s (model_by precision table store.model) store.words store.index chunks

-- ---- how it is built

-- The run is at the entry's position.
abbrev pub StandsAtEntry : ℕ → Entry → Run → Type 0
StandsAtEntry s entry there = IsPosition s there entry.place entry.lower entry.range

-- The chunks were encoded one after another. The index has an entry for each: the position before it, and its length.
abbrev pub Indexes : ℕ → ℕ → Model ℕ → List (List ℕ) → List Entry → Run → Run → Type 0
Indexes w s model [] [] old new = new ≡ old
Indexes w s model [] (entry ∷ entries) old new = ⊥
Indexes w s model (chunk ∷ chunks) [] old new = ⊥
Indexes w s model (chunk ∷ chunks) (entry ∷ entries) old new =
    StandsAtEntry s entry old × (entry.len ≡ length chunk)
    × ((between : Run) × NarrowsAll w s (items_of model chunk) old between × Indexes w s model chunks entries between new)

-- A new encoder encoded the chunks, and its words were sealed so that any words may follow.
abbrev pub IsBuilt : ℕ → ℕ → Model ℕ → List (List ℕ) → List Entry → List ℕ → Type 0
IsBuilt w s model chunks index words = (last : Run) × Indexes w s model chunks index (initial s) last × SelfDelimits w s last words
