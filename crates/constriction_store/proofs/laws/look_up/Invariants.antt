use Rattle.std.proofs.Common.{◌≡◌, ℕ, List, map, take}
use Rattle.constriction_base.specs.Models.{Model}
use Rattle.constriction_store.specs.Chunks.{chunk_in, lists_of}
use Rattle.constriction_store.specs.LookedUp.{HoldsEach}
use Rattle.constriction_store.specs.Stores.{HoldsChunks}
use Rattle.constriction_store.proofs.laws.look_up.Given as goal

-- the chunks so far are those of the places, as the words hold them
abbrev pub invariant-loop-place : goal.invariant-loop-place
invariant-loop-place g l =
    let model : Model ℕ = record { precision = g.row.PRECISION; table = g.M.EntropyModel.table l.store.model } in
    HoldsEach g.Word.Natural.BITS g.State.Natural.BITS model l.store.words l.store.index (take l.place-index l.places) (lists_of l.found.items)
    × ((chunks : List (List ℕ)) → HoldsChunks g.Word.Natural.BITS g.State.Natural.BITS model l.store.words l.store.index chunks
    → lists_of l.found.items ≡ map (chunk_in chunks) (take l.place-index l.places))
