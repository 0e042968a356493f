use Rattle.std.proofs.Common.{sum_by, take, ◌≡◌}
use Rattle.constriction_symbol.proofs.huffman.merging.total_fits.Given as goal

-- the sum of the weights so far
abbrev pub invariant-loop-weight : goal.invariant-loop-weight
invariant-loop-weight g l = g.P.Natural.number l.total ≡ sum_by g.P.Natural.number (take l.weight-index l.weights)
