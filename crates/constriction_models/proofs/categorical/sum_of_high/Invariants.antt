use Rattle.std.proofs.Common.{◌≡◌, ◌/◌, take}
use Rattle.std.specs.List.{sum_by}
use Rattle.constriction_models.proofs.categorical.sum_of_high.Given as goal

abbrev pub invariant-loop-count : goal.invariant-loop-count
invariant-loop-count l = l.total ≡ sum_by (λ count. count / 65536) (take l.count-index l.counts)
