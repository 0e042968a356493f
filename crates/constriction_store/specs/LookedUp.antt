-- The possible results of looking up chunks in a store.
use Rattle.std.specs.Prelude.{◌≡◌, ◌⊎◌, ℕ, ◌<◌, ◌≤◌, ⊤, List, [], ◌∷◌, Result, MatchResult, length, map, slice_index, take}
use Rattle.std.specs.declared.vec.Vec.{Vec}
use Rattle.constriction_base.specs.Models.{Model, items_of}
use Rattle.constriction_queue.specs.Range.{Run}
use Rattle.constriction_queue.specs.Symbols.{FindsAll, model_by}
use Rattle.constriction_store.specs.Chunks.{chunk_in, lists_of}
use Rattle.constriction_store.specs.Stores.{Entry, HoldsChunk, HoldsNoChunk, HoldsNoSymbol, Stored, entry_in, run_at}
use Rattle.constriction_store.specs.declared.looking_up.ChunkError.{ChunkError}
use Rattle.constriction_store.specs.declared.looking_up.ChunkError.TheVariants.{NoSuchChunk, Invalid, Memory}

-- Decoding `len` symbols from this run fails. `Invalid` comes after fewer symbols, where the words hold none. `Memory`
-- comes after at least one symbol.
abbrev pub ChunkFails : ℕ → ℕ → Model ℕ → List ℕ → Run → ℕ → ChunkError → Type 0
ChunkFails w s model words there len NoSuchChunk = ⊥
ChunkFails w s model words there len Invalid =
    (symbols : List ℕ) × (run : Run) × FindsAll w s words (items_of model symbols) there run × (length symbols < len) × HoldsNoSymbol w s model words run
ChunkFails w s model words there len Memory =
    (symbols : List ℕ) × (run : Run) × FindsAll w s words (items_of model symbols) there run × (0 < length symbols) × (length symbols ≤ len)

-- The words hold between 1 and `len` symbols at the entry.
abbrev pub HoldsSome : ℕ → ℕ → Model ℕ → List ℕ → Entry → Type 0
HoldsSome w s model words entry =
    (symbols : List ℕ) × (run : Run) × FindsAll w s words (items_of model symbols) (run_at entry) run × (0 < length symbols) × (length symbols ≤ entry.len)

-- A look-up fails with this error. `Memory` comes after at least one symbol.
abbrev pub LookUpFails : ℕ → ℕ → Model ℕ → List ℕ → List Entry → ℕ → ChunkError → Type 0
LookUpFails w s model words index i NoSuchChunk = length index ≤ i
LookUpFails w s model words index i Invalid = (i < length index) × HoldsNoChunk w s model words (entry_in index i)
LookUpFails w s model words index i Memory = (i < length index) × HoldsSome w s model words (entry_in index i)

-- There is an entry at each of these places, and the words hold the chunk there.
abbrev pub HoldsEach : ℕ → ℕ → Model ℕ → List ℕ → List Entry → List ℕ → List (List ℕ) → Type 0
HoldsEach w s model words index [] [] = ⊤
HoldsEach w s model words index [] (chunk ∷ chunks) = ⊥
HoldsEach w s model words index (place ∷ places) [] = ⊥
HoldsEach w s model words index (place ∷ places) (chunk ∷ chunks) =
    (place < length index) × HoldsChunk w s model words (entry_in index place) chunk × HoldsEach w s model words index places chunks

-- The store has a chunk at each of these places, and holds these chunks there.
abbrev pub StoreHoldsEach : {M : Type 0} → ℕ → ℕ → ℕ → (M → List (ℕ × ℕ × ℕ)) → Stored M → List ℕ → List (List ℕ) → Type 0
StoreHoldsEach w s precision table store places chunks =
    HoldsEach w s (model_by precision table store.model) store.words store.index places chunks

-- The store holds a chunk at this place, but there is no memory to add the chunk to a list.
abbrev pub NoMemoryForChunk : ℕ → ℕ → Model ℕ → List ℕ → List Entry → ℕ → ChunkError → Type 0
NoMemoryForChunk w s model words index i refusal =
    (refusal ≡ Memory) × (i < length index) × ((chunk : List ℕ) × HoldsChunk w s model words (entry_in index i) chunk)

-- The look-ups at the first `k` places return chunks. The next look-up fails, or there is no memory to add its chunk to
-- a list.
abbrev pub FailsFirst : ℕ → ℕ → Model ℕ → List ℕ → List Entry → List ℕ → ChunkError → Type 0
FailsFirst w s model words index places refusal =
    (k : ℕ) × (chunks : List (List ℕ)) × (k < length places) × HoldsEach w s model words index (take k places) chunks
    × (LookUpFails w s model words index (slice_index places k) refusal ⊎ NoMemoryForChunk w s model words index (slice_index places k) refusal)

-- The answer is these symbols, or `Memory`.
abbrev pub IsChunk : {A : Type 0} → List ℕ → Result (Vec ℕ A) ChunkError → Type 0
IsChunk symbols answer = MatchResult answer (λ again. again.items ≡ symbols) (λ e. e ≡ Memory)

-- ---- chunks through a store

-- Look-ups at these places fail in a store that holds chunks: it has fewer chunks, or there is no memory.
abbrev pub CannotLookUp : List (List ℕ) → List ℕ → ChunkError → Type 0
CannotLookUp chunks places NoSuchChunk = (k : ℕ) × (k < length places) × (length chunks ≤ slice_index places k)
CannotLookUp chunks places Invalid = ⊥
CannotLookUp chunks places Memory = 0 < length places

-- The answer is the chunks with these numbers, or the error of a look-up that fails in a store that holds the chunks.
abbrev pub AreChunks : {A B : Type 0} → List (List ℕ) → List ℕ → Result (Vec (Vec ℕ A) B) ChunkError → Type 0
AreChunks chunks places answer =
    MatchResult answer (λ found. lists_of found.items ≡ map (chunk_in chunks) places) (CannotLookUp chunks places)
