use Rattle.std.proofs.Common.{◌+◌, ◌≡◌, Bool, List, Some, length, map}
use Rattle.std.specs.Iterator.{IsFinite}
use Rattle.constriction_symbol.specs.Codewords.{YieldsBits}
use Rattle.constriction_symbol.specs.DecoderTree.{tree_of_pairs}
use Rattle.constriction_symbol.specs.Huffman.{IsTreeAt, Tree, subtree}
use Rattle.constriction_symbol.specs.Merging.{as_pair}
use Rattle.constriction_symbol.proofs.huffman.decoder.walk.Given as goal

-- the bits that were taken lead to the tree at the index
abbrev pub invariant-loop-index : goal.invariant-loop-index
invariant-loop-index g l = record {
  can : g.I.Iterator.can_next l.source;
  finite : IsFinite (g.I.Iterator.remaining l.fn.source) → IsFinite (g.I.Iterator.remaining l.source);
  tree : Tree;
  taken : List Bool;
  leads : subtree (tree_of_pairs l.nodes) taken ≡ Some tree;
  at : IsTreeAt (length l.nodes + 1) (map as_pair l.nodes) l.index tree;
  gives : YieldsBits g.I.Iterator.next_gives l.fn.source taken l.source;
}

abbrev pub decreases-loop-index : goal.decreases-loop-index
decreases-loop-index g l = l.index
