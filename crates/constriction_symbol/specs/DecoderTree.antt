-- Huffman trees for decoding: a tree as a list of pairs of children, and its decoding table.
use Rattle.std.specs.Prelude.{◌≡◌, ◌+◌, ◌*◌, ◌<◌, ◌≤◌, ◌^◌, ◌⊎◌, Bool, List, Some, ℕ, get_or, length, map, take}
use Rattle.constriction_symbol.specs.Bits.{top_bits}
use Rattle.constriction_symbol.specs.EncoderTree.{HasBelowOne}
use Rattle.constriction_symbol.specs.Huffman.{IsTreeAt, IsWithoutRepeats, Tree, leaves, subtree, tree_at}
use Rattle.constriction_symbol.specs.Merging.{as_pair}
use Rattle.constriction_symbol.specs.declared.huffman.first_bits.ReachedNode.{ReachedNode}

-- The tree whose inner nodes have these children, the root last.
abbrev pub tree_of_pairs : List (List ℕ) → Tree
tree_of_pairs nodes =
    tree_at (length nodes + length nodes) (length nodes + 1) (map as_pair nodes) (length nodes + length nodes)

-- The list of children holds this tree, in which each symbol occurs exactly once.
pub record HoldsTree (nodes : List (List ℕ)) (tree : Tree) : Type 0 where
  pub fits : 2 * length nodes + 1 < 2 ^ 64
  pub at : IsTreeAt (length nodes + 1) (map as_pair nodes) (length nodes + length nodes) tree
  pub once : IsWithoutRepeats (leaves tree)
  pub count : length (leaves tree) ≡ length nodes + 1

-- The bits lead from the root to the tree at an index.
pub record LeadsTo (nodes : List (List ℕ)) (bits : List Bool) (index : ℕ) : Type 0 where
  pub tree : Tree
  pub leads : subtree (tree_of_pairs nodes) bits ≡ Some tree
  pub at : IsTreeAt (length nodes + 1) (map as_pair nodes) index tree

-- The `taken` highest of the w bits of a number lead to the place.
abbrev pub TopLeadsToNode : List (List ℕ) → ℕ → ℕ → ReachedNode → Type 0
TopLeadsToNode nodes w number place = (place.taken ≤ w) × LeadsTo nodes (top_bits w place.taken number) place.index

-- The first `taken` bits lead to a symbol, or all bits lead to a node.
pub record LeadsToNode (nodes : List (List ℕ)) (bits : List Bool) (place : ReachedNode) : Type 0 where
  pub within : place.taken ≤ length bits
  pub leads : LeadsTo nodes (take place.taken bits) place.index
  pub whole : (place.index < length nodes + 1) ⊎ (place.taken ≡ length bits)

-- The entry at each number is the place of the number's bits below its highest 1, highest first.
abbrev pub LeadToNodes : List (List ℕ) → List ReachedNode → Type 0
LeadToNodes nodes places = (number : ℕ) (bits : List Bool) → number < length places → HasBelowOne bits number
    → LeadsToNode nodes bits (get_or places number (record { index = 0; taken = 0 }))
