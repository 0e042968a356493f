use Rattle.std.proofs.Common.{◌+◌, ◌-◌, ◌*◌, ◌<◌, ◌≤◌, length, take}
use Rattle.std.specs.List.{sum}
use Rattle.constriction_models.specs.Cumulative.{differences}
use Rattle.constriction_models.proofs.cumulative.CumulativeCounts.symbol_at.Given as goal

-- the quantile lies between where the lower symbol begins and where the higher one does
abbrev pub invariant-loop-high : goal.invariant-loop-high
invariant-loop-high g l =
    let counts = differences l.self.sums.items in
    record {
      order : l.low < l.high;
      within : l.high ≤ length counts;
      above : sum (take l.low counts) * l.self.spare + l.low * sum counts < (l.quantile + 1) * sum counts;
      below : (l.quantile + 1) * sum counts ≤ sum (take l.high counts) * l.self.spare + l.high * sum counts;
    }

abbrev pub decreases-loop-high : goal.decreases-loop-high
decreases-loop-high g l = l.high - l.low
