use Rattle.std.proofs.Common.{◌≡◌, ◌+◌, ◌^◌, take, true, false}
use Rattle.std.specs.Prelude.{sum_by}
use Rattle.constriction_inputs.proofs.rows.adding.is_total.Given as goal

abbrev pub invariant-loop-weight : goal.invariant-loop-weight
invariant-loop-weight g l =
    let number = g.P.Natural.number in
    record {
      left : l.is_reached ≡ false → sum_by number (take l.weight-index l.weights) + number l.rest + 1 ≡ 2 ^ g.row.PRECISION;
      whole : l.is_reached ≡ true → sum_by number (take l.weight-index l.weights) ≡ 2 ^ g.row.PRECISION;
    }
