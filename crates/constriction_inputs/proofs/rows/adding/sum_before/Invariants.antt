use Rattle.std.proofs.Common.{◌≡◌, take}
use Rattle.std.specs.Prelude.{sum_by}
use Rattle.constriction_inputs.proofs.rows.adding.sum_before.Given as goal

abbrev pub invariant-loop-i : goal.invariant-loop-i
invariant-loop-i g l = record { sum : g.P.Natural.number l.sum ≡ sum_by g.P.Natural.number (take l.i l.weights) }
