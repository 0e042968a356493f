-- Which symbols stand in a tree, and the tree at an index.
use Rattle.std.proofs.Common.{◌≡◌, ◌+◌, ◌-◌, ◌<◌, ◌≤◌, ℕ, zero, suc, Bool, true, false, List, [], ◌∷◌, ◌++◌, Some, None, ap, sym, inl, inr, refl, arith, if◌then◌else◌, length, le-ltb, lt-ltb}
use Rattle.std.proofs.lemmas.List.{get_or_append_left, length_push}
use Rattle.std.proofs.lemmas.Bool.{cases_eq}
use Rattle.std.proofs.lemmas.Bool.Decides.{eqb_tells}
use Rattle.constriction_symbol.specs.Huffman.{Tree, path, subtree, ReadsOnIn, leaves, occurrences, children, IsTreeAt, tree_at}
use Rattle.constriction_symbol.specs.Huffman.Tree.{Leaf, Node}
use Rattle.constriction_symbol.specs.HuffmanLaws.{below_leaf, subtree_append}

-- a node's children are behind one bit more
pub subtree_more : (t lesser other : Tree) (bits : List Bool) (bit : Bool) → subtree t bits ≡ Some (Node lesser other) → subtree t (bits ++ bit ∷ []) ≡ Some (if bit then other else lesser)
subtree_more t lesser other bits false is = subtree_append t (Node lesser other) bits (false ∷ []) is
subtree_more t lesser other bits true is = subtree_append t (Node lesser other) bits (true ∷ []) is

pub times_append : (s : ℕ) (xs ys : List ℕ) → occurrences s (xs ++ ys) ≡ occurrences s xs + occurrences s ys
times_append s [] ys = omega arith
times_append s (x ∷ xs) ys = omega (arith, times_append s xs ys)

pub times_node : (s : ℕ) (lesser other : Tree) → occurrences s (leaves (Node lesser other)) ≡ occurrences s (leaves lesser) + occurrences s (leaves other)
times_node s lesser other = times_append s (leaves lesser) (leaves other)

-- a symbol that bits lead to stands in the tree
pub subtree_times : (t : Tree) (s : ℕ) (bits : List Bool) → subtree t bits ≡ Some (Leaf s) → 0 < occurrences s (leaves t)
subtree_times (Leaf u) s bits is =
    let end : Leaf s ≡ Leaf u = (below_leaf u bits (Leaf s) is).1 in
    elim (eqb_tells u s) [
      | inl same ↦ rw same.0 (omega arith)
      | inr other ↦ absurd (other.1 cc)
    ]
subtree_times (Node lesser other) s [] is = absurd cc
subtree_times (Node lesser other) s (false ∷ bits) is = omega (arith, times_node s lesser other, subtree_times lesser s bits is)
subtree_times (Node lesser other) s (true ∷ bits) is = omega (arith, times_node s lesser other, subtree_times other s bits is)

-- a symbol that doesn't stand in the tree has no codeword
pub path_none : (t : Tree) (s : ℕ) → occurrences s (leaves t) ≡ 0 → path t s ≡ None
path_none (Leaf u) s none =
    elim (eqb_tells u s) [
      | inl same ↦ absurd (omega (arith, rw same.0 at none))
      | inr other ↦ rw other.0 refl
    ]
path_none (Node lesser other) s none =
    let both = times_node s lesser other in
    rw (path_none lesser s (omega (arith, both, none)), path_none other s (omega (arith, both, none))) refl

-- a symbol that stands in the tree has a codeword
pub path_some : (t : Tree) (s : ℕ) → 0 < occurrences s (leaves t) → (bits : List Bool) × (path t s ≡ Some bits)
path_some (Leaf u) s some =
    elim (eqb_tells u s) [
      | inl same ↦ ([], rw same.0 refl)
      | inr other ↦ absurd (omega (arith, rw other.0 at some))
    ]
path_some (Node lesser other) s some =
    let both = times_node s lesser other in
    elim (cases_eq (occurrences s (leaves lesser)) 0) [
      | inl none ↦ let found = path_some other s (omega (arith, both, some, none)) in (true ∷ found.0, rw (path_none lesser s none, found.1) refl)
      | inr more ↦ let found = path_some lesser s (omega (arith, more)) in (false ∷ found.0, rw found.1 refl)
    ]

-- where no symbol stands in the tree twice, bits that lead to one are its codeword
pub subtree_is_path : (t : Tree) (s : ℕ) (bits : List Bool) → occurrences s (leaves t) ≤ 1 → subtree t bits ≡ Some (Leaf s) → path t s ≡ Some bits
subtree_is_path (Leaf u) s bits once is =
    let end = below_leaf u bits (Leaf s) is in
    elim (eqb_tells u s) [
      | inl same ↦ rw (same.0, end.0) refl
      | inr other ↦ absurd (let leaf = end.1 in other.1 cc)
    ]
subtree_is_path (Node lesser other) s [] once is = absurd cc
subtree_is_path (Node lesser other) s (false ∷ bits) once is =
    let both = times_node s lesser other in
    rw (subtree_is_path lesser s bits (omega (arith, both, once)) is) refl
subtree_is_path (Node lesser other) s (true ∷ bits) once is =
    let both = times_node s lesser other in
    let some = subtree_times other s bits is in
    rw (path_none lesser s (omega (arith, both, once, some)), subtree_is_path other s bits (omega (arith, both, once)) is) refl

-- the tree at an index, by computing
pub tree_at_is : (fuel n : ℕ) (pairs : List (ℕ × ℕ)) (index : ℕ) (t : Tree) → index ≤ fuel → IsTreeAt n pairs index t → tree_at fuel n pairs index ≡ t
tree_at_is zero n pairs index (Leaf s) within at = ap Leaf at.0
tree_at_is (suc fuel) n pairs index (Leaf s) within at = rw (lt-ltb index n at.1, tree_at) (ap Leaf at.0)
tree_at_is zero n pairs index (Node lesser other) within at = absurd (omega (arith, within, at.2))
tree_at_is (suc fuel) n pairs index (Node lesser other) within at =
    let first = tree_at_is fuel n pairs (children n pairs index).0 lesser (omega (arith, within, at.2)) at.4 in
    let second = tree_at_is fuel n pairs (children n pairs index).1 other (omega (arith, within, at.3)) at.5 in
    rw (le-ltb index n at.0, tree_at, first, second) refl

-- it stays when there is a union more
pub tree_at_more : (n : ℕ) (pairs : List (ℕ × ℕ)) (pair : ℕ × ℕ) (index : ℕ) (t : Tree) → IsTreeAt n pairs index t → IsTreeAt n (pairs ++ pair ∷ []) index t
tree_at_more n pairs pair index (Leaf s) at = at
tree_at_more n pairs pair index (Node lesser other) at =
    let within : index - n < length pairs = omega (arith, at.0, at.1) in
    let same : children n (pairs ++ pair ∷ []) index ≡ children n pairs index = get_or_append_left pairs (pair ∷ []) (0, 0) (index - n) within in
    let first = tree_at_more n pairs pair (children n pairs index).0 lesser at.4 in
    let second = tree_at_more n pairs pair (children n pairs index).1 other at.5 in
    rw same (at.0, omega (arith, at.1, length_push pairs pair), at.2, at.3, first, second)

-- below n there is a leaf
pub leaf_at : (n : ℕ) (pairs : List (ℕ × ℕ)) (index : ℕ) (t : Tree) → index < n → IsTreeAt n pairs index t → t ≡ Leaf index
leaf_at n pairs index (Leaf s) low at = ap Leaf (sym at.0)
leaf_at n pairs index (Node lesser other) low at = absurd (omega (arith, low, at.0))

-- from n on there is a node, after whose bits another one is wanted; the next bit leads to a child
pub node_at : (n : ℕ) (pairs : List (ℕ × ℕ)) (index : ℕ) (t u : Tree) (bits : List Bool) → n ≤ index → subtree t bits ≡ Some u → IsTreeAt n pairs index u
    → ReadsOnIn t bits
    × (index < n + length pairs)
    × ((children n pairs index).0 < index)
    × ((children n pairs index).1 < index)
    × ((bit : Bool) → (child : Tree) × (subtree t (bits ++ bit ∷ []) ≡ Some child) × IsTreeAt n pairs (if bit then (children n pairs index).1 else (children n pairs index).0) child)
node_at n pairs index t (Leaf s) bits high is at = absurd (omega (arith, high, at.1))
node_at n pairs index t (Node lesser other) bits high is at = ((lesser, other, is), at.1, at.2, at.3, down)
  where
    down : (bit : Bool) → (child : Tree) × (subtree t (bits ++ bit ∷ []) ≡ Some child) × IsTreeAt n pairs (if bit then (children n pairs index).1 else (children n pairs index).0) child
    down false = (lesser, subtree_more t lesser other bits false is, at.4)
    down true = (other, subtree_more t lesser other bits true is, at.5)
