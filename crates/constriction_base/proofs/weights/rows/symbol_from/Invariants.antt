use Rattle.std.proofs.Common.{◌<◌, ◌≤◌, ◌-◌, map, length}
use Rattle.std.specs.Prelude.{slice_index}
use Rattle.constriction_base.proofs.weights.rows.symbol_from.Given as goal

-- the symbol's interval begins at or below the quantile
abbrev pub invariant-loop-symbol : goal.invariant-loop-symbol
invariant-loop-symbol g l = record {
  order : l.from ≤ l.symbol;
  within : l.symbol < length l.starts;
  above : slice_index (map g.Probability.Natural.number l.starts) l.symbol ≤ g.Probability.Natural.number l.quantile;
}

abbrev pub decreases-loop-symbol : goal.decreases-loop-symbol
decreases-loop-symbol g l = length l.starts - l.symbol
