use Rattle.std.proofs.Common.{◌≡◌, ◌≤◌, take}
use Rattle.std.specs.Prelude.{sum_by}
use Rattle.constriction_inputs.proofs.models.guided.step_up.Given as goal

abbrev pub invariant-loop-symbol : goal.invariant-loop-symbol
invariant-loop-symbol g l =
    let number = g.P.Natural.number in
    record {
      left : number l.start ≡ sum_by number (take l.symbol l.weights);
      below : number l.start ≤ number l.quantile;
    }
