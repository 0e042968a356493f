use Rattle.std.proofs.Common.{◌≡◌, ◌≤◌, take}
use Rattle.std.specs.Prelude.{sum_by}
use Rattle.constriction_inputs.proofs.rows.models.RowDecoderModel.quantile_function.Given as goal

abbrev pub invariant-loop-symbol : goal.invariant-loop-symbol
invariant-loop-symbol g l =
    let number = g.P.Natural.number in
    record {
      left : number l.left ≡ sum_by number (take l.symbol l.self.weights.now);
      within : number l.left ≤ number l.quantile;
    }
