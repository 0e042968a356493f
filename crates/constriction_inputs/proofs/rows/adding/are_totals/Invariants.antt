use Rattle.std.proofs.Common.{◌≡◌, ◌+◌, ◌-◌, ◌*◌, drop, length, map}
use Rattle.constriction_inputs.specs.Rows.{AreTotals}
use Rattle.constriction_inputs.proofs.rows.adding.are_totals.Given as goal

abbrev pub invariant-loop-done : goal.invariant-loop-done
invariant-loop-done g l =
    let all = map g.P.Natural.number l.weights in
    record {
      rest : l.start + l.width * (l.count - l._done) ≡ length l.weights;
      before : AreTotals g.row.PRECISION l.width (l.count - l._done) (drop l.start all) → AreTotals g.row.PRECISION l.width l.count all;
      behind : AreTotals g.row.PRECISION l.width l.count all → AreTotals g.row.PRECISION l.width (l.count - l._done) (drop l.start all);
    }
