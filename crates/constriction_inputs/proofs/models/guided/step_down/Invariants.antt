use Rattle.std.proofs.Common.{◌≡◌, ◌≤◌, take}
use Rattle.std.specs.Prelude.{sum_by}
use Rattle.constriction_inputs.proofs.models.guided.step_down.Given as goal

abbrev pub invariant-loop-quantile : goal.invariant-loop-quantile
invariant-loop-quantile g l = record {
  order : l.symbol ≤ l.fn.from;
  left : g.P.Natural.number l.start ≡ sum_by g.P.Natural.number (take l.symbol l.weights);
}

abbrev pub decreases-loop-quantile : goal.decreases-loop-quantile
decreases-loop-quantile g l = l.symbol
