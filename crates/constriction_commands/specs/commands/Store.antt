-- The output of the command `store` for an input text, and the condition for each fault.
use Rattle.std.specs.Prelude.{◌≡◌, ℕ, ◌<◌, ◌≤◌, List, ◌++◌, ⊤, flat_map, length}
use Rattle.std.specs.List.{AllByRecursion, Any}
use Rattle.constriction_base.specs.Models.{items_of}
use Rattle.constriction_base.specs.Tables.{Impossible}
use Rattle.constriction_queue.specs.Range.{Run, initial}
use Rattle.constriction_queue.specs.SelfDelimiting.{SelfDelimits}
use Rattle.constriction_queue.specs.Symbols.{NarrowsAll}
use Rattle.constriction_store.specs.Chunks.{chunk_in, count_of}
use Rattle.constriction_commands.specs.Coding.{of_24_bits}
use Rattle.constriction_commands.specs.Inputs.{TextHasChunks, NoChunks}
use Rattle.constriction_commands.specs.Lines.{line_of}
use Rattle.constriction_commands.specs.declared.fault.Fault.{Fault}
use Rattle.constriction_commands.specs.declared.fault.Fault.TheVariants.{TooManySymbols, Encoder, NoSuchChunk, OutOfMemory}

-- The largest number of symbols of all chunks together.
abbrev pub most_stored : ℕ
most_stored = 1048576

-- The symbols of all chunks, chunk by chunk.
abbrev pub joined : List (List ℕ) → List ℕ
joined chunks = flat_map (λ chunk. chunk) chunks

-- A new encoder writes these words for the symbols of all chunks, with a seal that any words may follow.
pub record AreWordsOf (table : List (ℕ × ℕ × ℕ)) (chunks : List (List ℕ)) (words : List ℕ) : Type 0 where
  pub few : count_of chunks ≤ most_stored
  pub run : Run
  pub encoded : NarrowsAll 32 64 (items_of (of_24_bits table) (joined chunks)) (initial 64) run
  pub delimited : SelfDelimits 32 64 run words

-- Each of these numbers is the index of a chunk, counted from 0.
abbrev pub AreThere : List (List ℕ) → List ℕ → Type 0
AreThere chunks places = AllByRecursion (λ place. place < length chunks) places

-- The lines of the chunks with these indices.
abbrev pub lines_at : List (List ℕ) → List ℕ → List ℕ
lines_at chunks places = flat_map (λ place. line_of (chunk_in chunks place)) places

-- The answer is a line of the store's words, and then a line for each chunk looked up.
pub record IsStored (text answer : List ℕ) : Type 0 where
  pub table : List (ℕ × ℕ × ℕ)
  pub places : List ℕ
  pub chunks : List (List ℕ)
  pub words : List ℕ
  pub given : TextHasChunks text table places chunks
  pub stored : AreWordsOf table chunks words
  pub there : AreThere chunks places
  pub printed : answer ≡ line_of words ++ lines_at chunks places

-- Storing the chunks fails: they have too many symbols, or a symbol is impossible.
abbrev pub StoringFails : List (ℕ × ℕ × ℕ) → List (List ℕ) → Fault → Type 0
StoringFails table chunks TooManySymbols = most_stored < count_of chunks
StoringFails table chunks (Encoder error) = (count_of chunks ≤ most_stored) × Any (λ chunk. Any (Impossible table) chunk) chunks
StoringFails table chunks OutOfMemory = ⊤
StoringFails table chunks fault = ⊥

-- Looking up chunks fails: an index is past the last chunk.
abbrev pub LookingUpFails : ℕ → List ℕ → Fault → Type 0
LookingUpFails count places NoSuchChunk = Any (λ place. count ≤ place) places
LookingUpFails count places OutOfMemory = ⊤
LookingUpFails count places fault = ⊥

-- The text gives chunks, and storing them fails with this fault.
abbrev pub TextIsRefused : List ℕ → Fault → Type 0
TextIsRefused text fault =
    (table : List (ℕ × ℕ × ℕ)) × (places : List ℕ) × (chunks : List (List ℕ)) × TextHasChunks text table places chunks × StoringFails table chunks fault

-- The command fails: the text gives no chunks, storing the chunks fails, or an index is past the last chunk.
abbrev pub StoreFails : List ℕ → Fault → Type 0
StoreFails text TooManySymbols = TextIsRefused text TooManySymbols
StoreFails text (Encoder error) = TextIsRefused text (Encoder error)
StoreFails text NoSuchChunk =
    (table : List (ℕ × ℕ × ℕ)) × (places : List ℕ) × (chunks : List (List ℕ)) × (words : List ℕ) × TextHasChunks text table places chunks × AreWordsOf table chunks words
    × LookingUpFails (length chunks) places NoSuchChunk
StoreFails text fault = NoChunks text fault
