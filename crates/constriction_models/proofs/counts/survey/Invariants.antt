use Rattle.std.specs.Prelude.{ℕ, ◌<◌, ◌≤◌, length, slice_index}
use Rattle.std.proofs.Common.{◌≡◌, take}
use Rattle.std.specs.List.{sum_by}
use Rattle.constriction_models.specs.Counts.{positive, kept}
use Rattle.constriction_models.proofs.counts.survey.Given as goal

abbrev pub invariant-loop-count : goal.invariant-loop-count
invariant-loop-count l = record {
  positives : l.positives ≡ sum_by positive (take l.count-index l.counts);
  bound : (k : ℕ) → k < l.count-index → slice_index l.counts k ≤ l.most;
  reached : 0 < l.most → (k : ℕ) × (k < length l.counts) × (slice_index l.counts k ≡ l.most);
  least : (k : ℕ) → k < l.count-index → 0 < slice_index l.counts k → l.least ≤ slice_index l.counts k;
  total : l.sum ≡ sum_by (kept 1) (take l.count-index l.counts);
}
