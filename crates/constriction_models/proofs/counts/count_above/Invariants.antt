use Rattle.std.specs.Prelude.{◌+◌}
use Rattle.std.proofs.Common.{◌≡◌, take}
use Rattle.std.specs.List.{sum_by}
use Rattle.constriction_models.specs.Counts.{reaches}
use Rattle.constriction_models.proofs.counts.count_above.Given as goal

abbrev pub invariant-loop-measure : goal.invariant-loop-measure
invariant-loop-measure l = l.total ≡ sum_by (reaches (l.least + 1)) (take l.measure-index l.measures)
