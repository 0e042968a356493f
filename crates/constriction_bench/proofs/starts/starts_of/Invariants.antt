use Rattle.std.proofs.Common.{◌≡◌, ◌^◌, slice_index}
use Rattle.constriction_bench.specs.Starts.{AreStarts}
use Rattle.constriction_bench.proofs.starts.starts_of.Given as goal

abbrev pub invariant-loop-symbol : goal.invariant-loop-symbol
invariant-loop-symbol g l = AreStarts g.row.PRECISION (g.M.EntropyModel.table l.model) l.starts.items l.symbol-counter
    × (l.end ≡ slice_index l.starts.items l.symbol-counter) × (l.total ≡ 2 ^ g.row.PRECISION)
