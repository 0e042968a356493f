-- The errors of building a store.
use Rattle.std.specs.Prelude.{ℕ, ◌<◌, ⊤, List, length}
use Rattle.constriction_base.specs.Models.{Model}
use Rattle.constriction_store.specs.Chunks.{IsFirstUnknown, IsFirstUnknownOf, count_of}
use Rattle.constriction_store.specs.declared.building.Refusal.{Refusal}
use Rattle.constriction_store.specs.declared.building.Refusal.TheVariants as refusal
use Rattle.constriction_store.specs.declared.building.BuildError.{BuildError}
use Rattle.constriction_store.specs.declared.building.BuildError.TheVariants.{TooLong, ImpossibleSymbol, Memory}

-- Encoding a chunk fails: this symbol is the first that the model doesn't know, or there is no memory.
abbrev pub EncodingFails : Model ℕ → List ℕ → Refusal → Type 0
EncodingFails model symbols (refusal.Impossible place) = IsFirstUnknown model symbols place
EncodingFails model symbols refusal.Memory = ⊤

-- Building a store fails with this error. `Memory` comes only if there is a chunk.
abbrev pub BuildFails : Model ℕ → List (List ℕ) → BuildError → Type 0
BuildFails model chunks TooLong = 1048576 < count_of chunks
BuildFails model chunks (ImpossibleSymbol chunk index) = IsFirstUnknownOf model chunks chunk index
BuildFails model chunks Memory = 0 < length chunks
