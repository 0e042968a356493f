use Rattle.std.specs.Prelude.{◌≡◌, ℕ, ◌+◌, ◌%◌, ◌<◌, IsTrue, length, slice_index}
use Rattle.std.proofs.Common.{map, take}
use Rattle.std.specs.List.{sum_by}
use Rattle.constriction_models.specs.Counts.{rounded_share}
use Rattle.constriction_models.proofs.counts.estimates.round_all.Given as goal

abbrev pub invariant-loop-i : goal.invariant-loop-i
invariant-loop-i l = record {
  done : take l.i l.weights.items ≡ map (rounded_share l.lift) (take l.i l.shares);
  counted : length l.weights.items ≡ length l.shares;
  total : l.total ≡ sum_by (rounded_share l.lift) (take l.i l.shares);
  clear : IsTrue l.clear → (k : ℕ) → k < l.i → (slice_index l.shares k + l.lift) % 4294967296 < 4294967295;
}
