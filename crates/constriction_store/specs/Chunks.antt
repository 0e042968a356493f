-- Chunks of symbols, and the first symbol that has no entry in a model.
use Rattle.std.specs.Prelude.{ℕ, ◌+◌, ◌<◌, List, [], ◌∷◌, length, map, slice_index, slice_index_or, take}
use Rattle.std.specs.declared.vec.Vec.{Vec}
use Rattle.std.specs.List.{AllByRecursion}
use Rattle.constriction_base.specs.Models.{Model, Knows}
use Rattle.constriction_base.specs.Tables.{Impossible}

-- The chunks as lists.
abbrev pub lists_of : {A : Type 0} → List (Vec ℕ A) → List (List ℕ)
lists_of chunks = map (λ chunk. chunk.items) chunks

-- The chunk at a place, or the empty chunk past the last one.
abbrev pub chunk_in : List (List ℕ) → ℕ → List ℕ
chunk_in chunks i = slice_index_or chunks i []

-- The number of symbols of all chunks.
abbrev pub count_of : List (List ℕ) → ℕ
count_of [] = 0
count_of (chunk ∷ chunks) = length chunk + count_of chunks

-- The model knows each of the symbols.
abbrev pub AllKnown : Model ℕ → List ℕ → Type 0
AllKnown model symbols = AllByRecursion (λ symbol. Knows model symbol) symbols

-- The symbol at this place is the first that the model doesn't know.
pub record IsFirstUnknown (model : Model ℕ) (symbols : List ℕ) (place : ℕ) : Type 0 where
  pub inside : place < length symbols
  pub unknown : Impossible model.table (slice_index symbols place)
  pub known : AllKnown model (take place symbols)

-- The symbol at this place of this chunk is the first of all chunks that the model doesn't know.
pub record IsFirstUnknownOf (model : Model ℕ) (chunks : List (List ℕ)) (chunk place : ℕ) : Type 0 where
  pub inside : chunk < length chunks
  pub first : IsFirstUnknown model (chunk_in chunks chunk) place
  pub known : AllByRecursion (λ symbols. AllKnown model symbols) (take chunk chunks)
