-- Huffman trees for encoding: a tree as a list of parents, and its codewords as numbers.
use Rattle.std.specs.Prelude.{◌≡◌, ◌+◌, ◌-◌, ◌*◌, ◌/◌, ◌^◌, ◌<◌, ◌≤◌, ◌⊎◌, Bool, List, Some, None, ℕ, get_or, length, reverse}
use Rattle.constriction_symbol.specs.Bits.{bits_of}
use Rattle.constriction_symbol.specs.Huffman.{GoesUp, Tree, climbed, leaves, path, tree_in}

-- The tree whose nodes have these parents, the root last.
abbrev pub tree_of_parents : List ℕ → Tree
tree_of_parents nodes = tree_in (length nodes) nodes (length nodes - 1)

-- Climbing in the list of parents gives the codewords of this tree.
pub record ClimbsTree (nodes : List ℕ) (tree : Tree) : Type 0 where
  pub up : GoesUp (length nodes) nodes
  pub some : 0 < length nodes
  pub count : length (leaves tree) ≡ length nodes / 2 + 1
  pub known : (symbol : ℕ) → symbol ≤ length nodes / 2 → path tree symbol ≡ Some (climbed (length nodes) nodes symbol)
  pub none : (symbol : ℕ) → length nodes / 2 < symbol → path tree symbol ≡ None

-- The bits are those below the highest 1 of the number, highest first.
pub record HasBelowOne (bits : List Bool) (number : ℕ) : Type 0 where
  pub count : ℕ
  pub low : ℕ
  pub small : low < 2 ^ count
  pub is : number ≡ low + 2 ^ count
  pub reads : bits ≡ reverse (bits_of count low)

-- The number is `above` with `bit` appended as the lowest bit, or 0, which stands for no codeword.
abbrev pub OneBitMore : ℕ → ℕ → ℕ → Type 0
OneBitMore above bit number = (number ≡ 0) ⊎ ((0 < above) × (number ≡ 2 * above + bit))

-- Each node's number is a 1 followed by the bits from the root to the node, or 0.
pub record HasCodewords (nodes numbers : List ℕ) : Type 0 where
  pub len : length numbers ≡ length nodes
  pub each : (index : ℕ) → index < length nodes
      → (get_or numbers index 0 ≡ 0) ⊎ HasBelowOne (climbed (length nodes) nodes index) (get_or numbers index 0)
