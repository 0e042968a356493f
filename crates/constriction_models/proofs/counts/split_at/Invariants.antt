use Rattle.std.proofs.Common.{◌≡◌, take}
use Rattle.std.specs.List.{sum_by}
use Rattle.constriction_models.specs.Counts.{raised, kept}
use Rattle.constriction_models.proofs.counts.split_at.Given as goal

abbrev pub invariant-loop-count : goal.invariant-loop-count
invariant-loop-count l = record {
  raised : l.raised ≡ sum_by (raised l.limit) (take l.count-index l.counts);
  rest : l.rest ≡ sum_by (kept l.limit) (take l.count-index l.counts);
}
