use Rattle.std.proofs.Common.{ℕ, ◌+◌, ◌≤◌, take}
use Rattle.constriction_base.specs.Models.{Model, items_of}
use Rattle.constriction_queue.specs.Encoder.{left_to_encode, run_by}
use Rattle.constriction_queue.specs.Symbols.{NarrowsAll}
use Rattle.constriction_store.specs.Chunks.{AllKnown}
use Rattle.constriction_store.proofs.building.encode_chunk.Given as goal

-- the symbols so far are known, and encoded
abbrev pub invariant-loop-place : goal.invariant-loop-place
invariant-loop-place g l =
    let w = g.Word.Natural.BITS in
    let s = g.State.Natural.BITS in
    let model : Model ℕ = record { precision = g.row.PRECISION; table = g.M.EntropyModel.table l.model } in
    record {
      coded : NarrowsAll w s (items_of model (take l.place l.symbols)) (run_by w s l.fn.encoder) (run_by w s l.encoder);
      known : AllKnown model (take l.place l.symbols);
      left : left_to_encode l.fn.encoder ≤ left_to_encode l.encoder + l.place;
    }
