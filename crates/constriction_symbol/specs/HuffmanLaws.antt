-- Laws of Huffman codebooks: no codeword is a prefix of another one, or of bits that lead to an inner node.
use Rattle.std.proofs.Common.{◌≡◌, ◌==◌, ℕ, Bool, true, false, List, [], ◌∷◌, ◌++◌, Option, Some, None, ap, sym, inl, inr, refl, ◌∙◌, ◌⊎◌}
use Rattle.std.proofs.lemmas.Bool.{eqb-true}
use Rattle.std.proofs.lemmas.Option.{cond_some, same_Some}
use Rattle.constriction_symbol.specs.Huffman.{Tree, path, prefixed, or_else, subtree, ReadsOnIn}
use Rattle.constriction_symbol.specs.Huffman.Tree.{Leaf, Node}
use Rattle.constriction_symbol.specs.Codewords.{NoCodewordBegins}

-- The codeword of a leaf is empty.
pub leaf_path : (u s : ℕ) (bits : List Bool) → path (Leaf u) s ≡ Some bits → (u ≡ s) × (bits ≡ [])
leaf_path u s bits is = let known = cond_some (u == s) [] bits is in (eqb-true u s known.0, sym known.1)

-- A codeword in a node is the bit that leads to a child, and then a codeword in this child.
pub node_path : (x y : Option (List Bool)) (bits : List Bool) → or_else (prefixed false x) (prefixed true y) ≡ Some bits
    → ((rest : List Bool) × (x ≡ Some rest) × (bits ≡ false ∷ rest)) ⊎ ((rest : List Bool) × (x ≡ None) × (y ≡ Some rest) × (bits ≡ true ∷ rest))
node_path (Some rest) y bits is = inl (rest, refl, cc)
node_path None (Some rest) bits is = inr (rest, refl, refl, cc)
node_path None None bits is = absurd cc

-- A codeword leads to its symbol.
pub path_is_subtree : (t : Tree) (s : ℕ) (bits : List Bool) → path t s ≡ Some bits → subtree t bits ≡ Some (Leaf s)
path_is_subtree (Leaf u) s bits is = let known = leaf_path u s bits is in rw known.1 (ap (λ n. Some (Leaf n)) known.0)
path_is_subtree (Node lesser other) s bits is =
    elim (node_path (path lesser s) (path other s) bits is) [
      | inl found ↦ rw found.2 (path_is_subtree lesser s found.0 found.1)
      | inr found ↦ rw found.3 (path_is_subtree other s found.0 found.2)
    ]

-- If bits lead to a tree, the bits after them lead on from this tree.
pub subtree_append : (t u : Tree) (bits tail : List Bool) → subtree t bits ≡ Some u → subtree t (bits ++ tail) ≡ subtree u tail
subtree_append t u [] tail is = ap (λ v. subtree v tail) (same_Some _ _ is)
subtree_append (Leaf s) u (bit ∷ bits) tail is = absurd cc
subtree_append (Node lesser other) u (false ∷ bits) tail is = subtree_append lesser u bits tail is
subtree_append (Node lesser other) u (true ∷ bits) tail is = subtree_append other u bits tail is

-- No bits lead below a leaf.
pub below_leaf : (s : ℕ) (tail : List Bool) (u : Tree) → subtree (Leaf s) tail ≡ Some u → (tail ≡ []) × (u ≡ Leaf s)
below_leaf s [] u is = (refl, sym (same_Some _ _ is))
below_leaf s (bit ∷ tail) u is = absurd cc

-- If bits that begin with a codeword lead to a tree, no bits follow the codeword, and the tree is its symbol's leaf.
pub begun_by : (t u : Tree) (s : ℕ) (code tail : List Bool) → path t s ≡ Some code → subtree t (code ++ tail) ≡ Some u → (tail ≡ []) × (u ≡ Leaf s)
begun_by t u s code tail known is = below_leaf s tail u (sym (subtree_append t (Leaf s) code tail (path_is_subtree t s code known)) ∙ is)

-- No codeword begins another.
pub path_prefix_free : (t : Tree) (s u : ℕ) (bits tail : List Bool) → path t s ≡ Some bits → path t u ≡ Some (bits ++ tail) → s ≡ u
path_prefix_free t s u bits tail first second =
    let same = (begun_by t (Leaf u) s bits tail first (path_is_subtree t u (bits ++ tail) second)).1 in
    cc

-- No codeword begins bits that lead to an inner node.
pub inner_begins_none : (t : Tree) (bits : List Bool) → ReadsOnIn t bits → NoCodewordBegins (path t) bits
inner_begins_none t bits (lesser, other, at) s code tail known is =
    let same = (begun_by t (Node lesser other) s code tail known (ap (subtree t) (sym is) ∙ at)).1 in
    cc

-- Equal symbols have the same path.
pub same_path : (t : Tree) (s u : ℕ) → s ≡ u → path t s ≡ path t u
same_path t s u is = ap (path t) is
