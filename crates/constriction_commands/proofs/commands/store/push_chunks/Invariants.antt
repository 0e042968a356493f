use Rattle.std.proofs.Common.{ℕ, List, take}
use Rattle.constriction_base.specs.WeightTables.{model_of}
use Rattle.constriction_store.specs.Stores.{HoldsChunks}
use Rattle.constriction_commands.proofs.Chunks.{AreShown}
use Rattle.constriction_commands.proofs.commands.store.push_chunks.Given as goal

-- the lines of the places so far are written
abbrev pub invariant-loop-place : goal.invariant-loop-place
invariant-loop-place l =
    (chunks : List (List ℕ)) → HoldsChunks 32 64 (model_of l.store.model) l.store.words l.store.index chunks → AreShown chunks (take l.place-index l.places) l.fn.lines.items l.lines.items
