use Rattle.std.proofs.Common.{◌≡◌, ◌+◌, ◌<◌, ◌≤◌, ◌^◌, ℕ}
use Rattle.constriction_base.specs.Tables.{Has}
use Rattle.constriction_models.proofs.Finding.{AreLowTo}
use Rattle.constriction_models.proofs.lookup.reason_against.Given as goal

abbrev pub invariant-loop-number : goal.invariant-loop-number
invariant-loop-number g l = record {
  last : l.count ≡ 2 ^ g.row.PRECISION;
  within : l.number ≤ 2 ^ g.row.PRECISION;
  entry : (symbol : ℕ) × Has (g.M.EntropyModel.table l.model) symbol (g.M.Probability.Natural.number l.row.left) (g.M.Probability.BitArray.nonzero_number l.row.weight) × (symbol < 65536);
  from : g.M.Probability.Natural.number l.row.left ≤ l.number;
  end : l.end ≡ g.M.Probability.Natural.number l.row.left + g.M.Probability.BitArray.nonzero_number l.row.weight;
  before : l.number ≤ l.end;
  low : AreLowTo (g.M.EntropyModel.table l.model) l.number;
}
