-- A walk from the root of a tree down to a symbol.
use Rattle.std.proofs.Common.{◌≡◌, ◌+◌, ◌-◌, ◌/◌, ◌^◌, ◌<◌, ◌≤◌, ℕ, zero, suc, List, [], ◌∷◌, ◌++◌, Bool, true, false, Some, length, map, drop, reverse, arith, sym, ap, ◌∙◌, if◌then◌else◌, slice_index_or, append_assoc}
use Rattle.std.proofs.lemmas.List.{get_or-map, length-append, length-map, length-reverse, reverse-append}
use Rattle.std.proofs.lemmas.Nat.{shr-shr}
use Rattle.constriction_symbol.specs.Bits.{bits_of}
use Rattle.constriction_symbol.proofs.Coding.{length_bits}
use Rattle.constriction_symbol.specs.Huffman.{IsTreeAt, Tree, children, path, subtree}
use Rattle.constriction_symbol.proofs.HuffmanTrees.{node_at, leaf_at, subtree_is_path}
use Rattle.constriction_symbol.specs.Merging.{as_pair}
use Rattle.constriction_symbol.specs.DecoderTree.{HoldsTree}
use mir.Val.{bool_byte}

-- the child of a node by a bit
pub child_is : (nodes : List (List ℕ)) (n index : ℕ) (bit : Bool) → index - n < length nodes
    → slice_index_or (slice_index_or nodes (index - n) []) (bool_byte bit) 0 ≡ (if bit then (children n (map as_pair nodes) index).1 else (children n (map as_pair nodes) index).0)
child_is nodes n index true within = ap (λ p. p.1) (sym (get_or-map as_pair nodes (index - n) [] (0, 0) within))
child_is nodes n index false within = ap (λ p. p.0) (sym (get_or-map as_pair nodes (index - n) [] (0, 0) within))

-- an index of a node, whose bits lead on
pub node_within : (nodes : List (List ℕ)) (index : ℕ) (t u : Tree) (bits : List Bool) → length nodes + 1 ≤ index → subtree t bits ≡ Some u → IsTreeAt (length nodes + 1) (map as_pair nodes) index u
    → index - (length nodes + 1) < length nodes
node_within nodes index t u bits high is at =
    let node = node_at (length nodes + 1) (map as_pair nodes) index t u bits high is at in
    omega (arith, node.1, length-map nodes as_pair, high)

pub child_below : (nodes : List (List ℕ)) (index : ℕ) (t u : Tree) (bits : List Bool) (bit : Bool) → length nodes + 1 ≤ index → subtree t bits ≡ Some u → IsTreeAt (length nodes + 1) (map as_pair nodes) index u
    → slice_index_or (slice_index_or nodes (index - (length nodes + 1)) []) (bool_byte bit) 0 < index
child_below nodes index t u bits bit high is at =
    let node = node_at (length nodes + 1) (map as_pair nodes) index t u bits high is at in
    rw (child_is nodes (length nodes + 1) index bit (node_within nodes index t u bits high is at)) (either bit node.2 node.3)
  where
    either : (b : Bool) → (children (length nodes + 1) (map as_pair nodes) index).0 < index → (children (length nodes + 1) (map as_pair nodes) index).1 < index
        → (if b then (children (length nodes + 1) (map as_pair nodes) index).1 else (children (length nodes + 1) (map as_pair nodes) index).0) < index
    either true lesser other = other
    either false lesser other = lesser

pub child_at : (nodes : List (List ℕ)) (index : ℕ) (t u : Tree) (bits : List Bool) (bit : Bool) → length nodes + 1 ≤ index → subtree t bits ≡ Some u → IsTreeAt (length nodes + 1) (map as_pair nodes) index u
    → (child : Tree) × (subtree t (bits ++ bit ∷ []) ≡ Some child) × IsTreeAt (length nodes + 1) (map as_pair nodes) (slice_index_or (slice_index_or nodes (index - (length nodes + 1)) []) (bool_byte bit) 0) child
child_at nodes index t u bits bit high is at =
    let node = node_at (length nodes + 1) (map as_pair nodes) index t u bits high is at in
    let down = node.4 bit in
    (down.0, down.1, rw (child_is nodes (length nodes + 1) index bit (node_within nodes index t u bits high is at)) down.2)

-- at a symbol the bits are its codeword
pub arrived : (nodes : List (List ℕ)) (index : ℕ) (t u : Tree) (bits : List Bool) → HoldsTree nodes t → index < length nodes + 1 → subtree t bits ≡ Some u → IsTreeAt (length nodes + 1) (map as_pair nodes) index u
    → path t index ≡ Some bits
arrived nodes index t u bits held low is at =
    let leaf = leaf_at (length nodes + 1) (map as_pair nodes) index u low at in
    subtree_is_path t index bits (held.once index) (is ∙ ap Some leaf)

-- the last of a word's bits are those of what is left of it when the others are shifted out
pub last_bits : (rest back : List Bool) (w n : ℕ) → bits_of w n ≡ rest ++ back → back ≡ bits_of (length back) (n / 2 ^ (w - length back))
last_bits [] back w n is =
    let all : length back ≡ w = ap length (sym is) ∙ length_bits w n in
    let none : w - length back ≡ 0 = omega (arith, all) in
    let whole : n ≡ n / 2 ^ 0 = omega arith in
    rw (none, all) (sym is ∙ ap (bits_of w) whole)
last_bits (b ∷ rest) back zero n is = absurd (omega (arith, ap length is))
last_bits (b ∷ rest) back (suc w) n is =
    let tail : bits_of w (n / 2) ≡ rest ++ back = ap (drop 1) is in
    let size : length rest + length back ≡ w = sym (length-append rest back) ∙ (ap length (sym tail) ∙ length_bits w (n / 2)) in
    let count : 1 + (w - length back) ≡ suc w - length back = omega (arith, size) in
    last_bits rest back w (n / 2) tail ∙ ap (bits_of (length back)) (shr-shr n 1 (w - length back) ∙ ap (λ e. n / 2 ^ e) count)

-- one bit more was taken from the end
pub taken_more : (all rest next taken : List Bool) (bit : Bool) → all ≡ rest ++ reverse taken → rest ≡ next ++ bit ∷ [] → all ≡ next ++ reverse (taken ++ bit ∷ [])
taken_more all rest next taken bit is popped =
    is ∙ (ap (λ bs. bs ++ reverse taken) popped ∙ (append_assoc next (bit ∷ []) (reverse taken) ∙ ap (λ bs. next ++ bs) (sym (reverse-append taken (bit ∷ [])))))

-- how many were taken, by how many are left
pub taken_is : (w n room : ℕ) (rest taken : List Bool) → bits_of w n ≡ rest ++ reverse taken → room + length rest ≡ w → room ≡ length taken
taken_is w n room rest taken is left =
    let all : length rest + length taken ≡ w = omega (arith, sym (length-append rest (reverse taken)) ∙ (ap length (sym is) ∙ length_bits w n), length-reverse taken) in
    omega (arith, all, left)
