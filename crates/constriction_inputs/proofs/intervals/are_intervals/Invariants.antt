use Rattle.std.proofs.Common.{drop, map}
use Rattle.constriction_inputs.specs.Intervals.{AreIntervals}
use Rattle.constriction_inputs.proofs.intervals.are_intervals.Given as goal

abbrev pub invariant-loop-i : goal.invariant-loop-i
invariant-loop-i g l =
    let number = g.P.Natural.number in
    record {
      before : AreIntervals g.row.PRECISION (map number (drop l.i l.lefts)) (map number (drop l.i l.ps)) → AreIntervals g.row.PRECISION (map number l.lefts) (map number l.ps);
      behind : AreIntervals g.row.PRECISION (map number l.lefts) (map number l.ps) → AreIntervals g.row.PRECISION (map number (drop l.i l.lefts)) (map number (drop l.i l.ps));
    }
