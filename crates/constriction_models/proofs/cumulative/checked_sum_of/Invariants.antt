use Rattle.std.proofs.Common.{◌≡◌, ◌<◌, take}
use Rattle.std.specs.List.{sum_by}
use Rattle.constriction_models.proofs.cumulative.checked_sum_of.Given as goal

abbrev pub invariant-loop-count : goal.invariant-loop-count
invariant-loop-count g l = record {
  total : l.total ≡ sum_by g.C.Natural.number (take l.count-index l.counts);
  fits : l.total < 1099511627776;
}
