use Rattle.std.proofs.Common.{◌+◌, ◌++◌, ◌<◌, ◌≡◌, Bool, List, Some, length, map, reverse}
use Rattle.constriction_symbol.specs.Bits.{bits_of}
use Rattle.constriction_symbol.specs.DecoderTree.{tree_of_pairs}
use Rattle.constriction_symbol.specs.Huffman.{IsTreeAt, Tree, subtree}
use Rattle.constriction_symbol.specs.Merging.{as_pair}
use Rattle.constriction_symbol.proofs.huffman.decoder.walk_on.Given as goal

-- the bits that were taken lead to the tree at the index
abbrev pub invariant-loop-index : goal.invariant-loop-index
invariant-loop-index g l = record {
  tree : Tree;
  taken : List Bool;
  leads : subtree (tree_of_pairs l.nodes) taken ≡ Some tree;
  at : IsTreeAt (length l.nodes + 1) (map as_pair l.nodes) l.index tree;
  some : 0 < length taken;
  few : length taken < l.count;
  bits : bits_of g.Word.Natural.BITS (g.Word.Natural.number l.fn.bits) ≡ l.rest ++ reverse taken;
}

abbrev pub decreases-loop-index : goal.decreases-loop-index
decreases-loop-index g l = l.index
