use Rattle.std.proofs.Common.{◌≡◌, ◌+◌, ◌<◌, ◌≤◌, ◌^◌}
use Rattle.constriction_base.specs.Tables.{Has}
use Rattle.constriction_models.specs.Lookup.{AreRows}
use Rattle.constriction_models.proofs.Finding.{AreLowTo}
use Rattle.constriction_models.proofs.lookup.rows_of.Given as goal

abbrev pub invariant-loop-quantile : goal.invariant-loop-quantile
invariant-loop-quantile g l = record {
  rows : AreRows g.M.Probability.Natural.number g.M.Probability.BitArray.nonzero_number (g.M.EntropyModel.table l.model) l.symbols.items l.rows.items l.quantile;
  last : l.count ≡ 2 ^ g.row.PRECISION;
  within : l.quantile ≤ 2 ^ g.row.PRECISION;
  entry : Has (g.M.EntropyModel.table l.model) l.symbol (g.M.Probability.Natural.number l.row.left) (g.M.Probability.BitArray.nonzero_number l.row.weight);
  from : g.M.Probability.Natural.number l.row.left ≤ l.quantile;
  end : l.end ≡ g.M.Probability.Natural.number l.row.left + g.M.Probability.BitArray.nonzero_number l.row.weight;
  before : l.quantile ≤ l.end;
  small : l.symbol < 65536;
  low : AreLowTo (g.M.EntropyModel.table l.model) l.quantile;
}
