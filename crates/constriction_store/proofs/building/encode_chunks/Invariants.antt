use Rattle.std.proofs.Common.{ℕ, ◌+◌, ◌-◌, ◌^◌, ◌≤◌, map, take}
use Rattle.constriction_base.specs.Models.{Model}
use Rattle.constriction_queue.specs.Encoder.{left_to_encode, run_by}
use Rattle.constriction_store.specs.Chunks.{count_of, lists_of}
use Rattle.constriction_store.specs.Stores.{Indexes, entry_at}
use Rattle.constriction_store.proofs.building.encode_chunks.Given as goal

-- the chunks so far are encoded, and an entry of each is kept
abbrev pub invariant-loop-place : goal.invariant-loop-place
invariant-loop-place g l =
    let w = g.Word.Natural.BITS in
    let s = g.State.Natural.BITS in
    let model : Model ℕ = record { precision = g.row.PRECISION; table = g.M.EntropyModel.table l.model } in
    record {
      indexed : Indexes w s model (lists_of (take l.place l.chunks)) (map entry_at l.index.items) (run_by w s l.fn.encoder) (run_by w s l.encoder);
      left : 2 ^ 64 - 18 ≤ left_to_encode l.encoder + count_of (lists_of (take l.place l.chunks));
    }
