use Rattle.std.proofs.Common.{◌≡◌, map, take}
use Rattle.constriction_symbol.specs.Huffman.{keys_from}
use Rattle.constriction_symbol.specs.Merging.{keys_of}
use Rattle.constriction_symbol.proofs.huffman.merging.sorted_leaves.Given as goal

-- the weights so far with their indices
abbrev pub invariant-loop-index : goal.invariant-loop-index
invariant-loop-index g l = keys_of g.P.Natural.number l.leaves.items ≡ keys_from 0 (map g.P.Natural.number (take l.index l.weights))
