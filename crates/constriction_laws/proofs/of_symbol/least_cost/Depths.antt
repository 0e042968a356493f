-- What the codewords of a tree cost: each union that merging makes counts once by its weight.
use Rattle.std.proofs.Common.{◌≡◌, ◌+◌, ◌*◌, ◌<◌, ◌≤◌, ◌==◌, ℕ, zero, suc, Bool, List, [], ◌∷◌, ◌++◌, Option, Some, None, ap, sym, inl, inr, refl, ◌∙◌, arith, length, get_or, sum_by, append_assoc, subst}
use Rattle.std.proofs.lemmas.Bool.{cond_both, cases_eq}
use Rattle.std.proofs.lemmas.Bool.Decides.{eqb_tells}
use Rattle.std.proofs.lemmas.List.{length_push}
use Rattle.std.proofs.lemmas.List.Sums.{sum_by-cons}
use Rattle.constriction_symbol.specs.Huffman.{Tree, Weighed, comes_before, put_in, leaves_from, united, merged, path, leaves, occurrences}
use Rattle.constriction_symbol.specs.Huffman.Tree.{Leaf, Node}
use Rattle.constriction_symbol.proofs.HuffmanTrees.{path_none, path_some, times_node}
use Rattle.constriction_symbol.proofs.HuffmanMerge.{sum_put}
use Rattle.constriction_laws.specs.symbol.Cost.{cost}
use Rattle.constriction_laws.proofs.of_symbol.least_cost.Lengths.{unions}

-- the sum over symbols from one on of weight times a number of the symbol
abbrev pub weighted : ℕ → List ℕ → (ℕ → ℕ) → ℕ
weighted s [] f = 0
weighted s (w ∷ ws) f = w * f s + weighted (s + 1) ws f

-- the length of a codeword
abbrev pub bits_in : Option (List Bool) → ℕ
bits_in None = 0
bits_in (Some bits) = length bits

-- what the symbols in a tree weigh
abbrev pub weight_of : List ℕ → Tree → ℕ
weight_of ws t = weighted 0 ws (λ s. occurrences s (leaves t))

weight_node_from : (s : ℕ) (ws : List ℕ) (lesser other : Tree)
    → weighted s ws (λ s. occurrences s (leaves (Node lesser other))) ≡ weighted s ws (λ s. occurrences s (leaves lesser)) + weighted s ws (λ s. occurrences s (leaves other))
weight_node_from s [] lesser other = refl
weight_node_from s (w ∷ ws) lesser other = omega (arith, ap (λ n. w * n) (times_node s lesser other), weight_node_from (s + 1) ws lesser other)

pub weight_node : (ws : List ℕ) (lesser other : Tree) → weight_of ws (Node lesser other) ≡ weight_of ws lesser + weight_of ws other
weight_node ws lesser other = weight_node_from 0 ws lesser other

-- how long a symbol's codeword is in a tree
abbrev pub depth : Tree → ℕ → ℕ
depth t s = bits_in (path t s)

-- it is one longer than in the child that has the symbol
depth_node : (lesser other : Tree) (s : ℕ) → occurrences s (leaves (Node lesser other)) ≤ 1 → depth (Node lesser other) s ≡ depth lesser s + depth other s + occurrences s (leaves (Node lesser other))
depth_node lesser other s once =
    let both = times_node s lesser other in
    elim (cases_eq (occurrences s (leaves lesser)) 0) [
      | inl none ↦ elim (cases_eq (occurrences s (leaves other)) 0) [
        | inl neither ↦ rw (path_none lesser s none, path_none other s neither) (omega (arith, both, none, neither))
        | inr some ↦ let found = path_some other s (omega (arith, some)) in rw (path_none lesser s none, found.1) (omega (arith, both, none, some, once))
      ]
      | inr some ↦ let found = path_some lesser s (omega (arith, some)) in rw (found.1, path_none other s (omega (arith, both, some, once))) (omega (arith, both, some, once))
    ]

depths_node_from : (s : ℕ) (ws : List ℕ) (lesser other : Tree) → ((s : ℕ) → occurrences s (leaves (Node lesser other)) ≤ 1)
    → weighted s ws (depth (Node lesser other)) ≡ weighted s ws (depth lesser) + weighted s ws (depth other) + weighted s ws (λ s. occurrences s (leaves (Node lesser other)))
depths_node_from s [] lesser other once = refl
depths_node_from s (w ∷ ws) lesser other once = omega (arith, ap (λ n. w * n) (depth_node lesser other s (once s)), depths_node_from (s + 1) ws lesser other once)

depths_leaf : (s : ℕ) (ws : List ℕ) (u : ℕ) → weighted s ws (depth (Leaf u)) ≡ 0
depths_leaf s [] u = refl
depths_leaf s (w ∷ ws) u =
    let none : depth (Leaf u) s ≡ 0 = cond_both (u == s) (Some []) None (λ bits. bits_in bits ≡ 0) (λ _. refl) (λ _. refl) in
    omega (arith, ap (λ n. w * n) none, depths_leaf (s + 1) ws u)

-- each node counts by its weight
abbrev pub tree_cost : List ℕ → Tree → ℕ
tree_cost ws (Leaf s) = 0
tree_cost ws (Node lesser other) = tree_cost ws lesser + tree_cost ws other + weight_of ws (Node lesser other)

pub depths_cost : (ws : List ℕ) (t : Tree) → ((s : ℕ) → occurrences s (leaves t) ≤ 1) → weighted 0 ws (depth t) ≡ tree_cost ws t
depths_cost ws (Leaf s) once = depths_leaf 0 ws s
depths_cost ws (Node lesser other) once =
    let first = depths_cost ws lesser (λ s. omega (arith, once s, times_node s lesser other)) in
    let second = depths_cost ws other (λ s. omega (arith, once s, times_node s lesser other)) in
    omega (arith, depths_node_from 0 ws lesser other once, first, second)

-- the weights of a set are those of its trees
abbrev pub AreWeighed : List ℕ → List Weighed → Type 0
AreWeighed ws [] = Unit {0}
AreWeighed ws (x ∷ xs) = (x.weight ≡ weight_of ws x.tree) × AreWeighed ws xs

pub weighed_put : (ws : List ℕ) (x : Weighed) (xs : List Weighed) → x.weight ≡ weight_of ws x.tree → AreWeighed ws xs → AreWeighed ws (put_in x xs)
weighed_put ws x [] is all = (is, tt)
weighed_put ws x (y ∷ ys) is all =
    cond_both (comes_before x y) (x ∷ y ∷ ys) (y ∷ put_in x ys) (AreWeighed ws) (λ _. (is, (all.0, all.1))) (λ _. (all.0, weighed_put ws x ys is all.1))

weighed_union : (ws : List ℕ) (x y : Weighed) (next : ℕ) → x.weight ≡ weight_of ws x.tree → y.weight ≡ weight_of ws y.tree → (united x y next).weight ≡ weight_of ws (united x y next).tree
weighed_union ws x y next first second = omega (arith, weight_node ws x.tree y.tree, first, second)

-- merging adds the weights of the unions
pub merged_cost : (ws : List ℕ) (n next : ℕ) (set : List Weighed) → AreWeighed ws set → sum_by (λ x. tree_cost ws x.tree) (merged n next set) ≡ sum_by (λ x. tree_cost ws x.tree) set + unions n next set
merged_cost ws zero next set all = omega arith
merged_cost ws (suc n) next [] all = refl
merged_cost ws (suc n) next (x ∷ []) all = omega arith
merged_cost ws (suc n) next (x ∷ y ∷ set) all =
    let u = united x y next in
    let f : Weighed → ℕ = λ x. tree_cost ws x.tree in
    let union = weighed_union ws x y next all.0 all.1.0 in
    let rest = merged_cost ws n (next + 1) (put_in u set) (weighed_put ws u set union all.1.1) in
    omega (arith, rest, sum_put f u set, union, sum_by-cons f x (y ∷ set), sum_by-cons f y set)

weighted_append : (s : ℕ) (front back : List ℕ) (f : ℕ → ℕ) → weighted s (front ++ back) f ≡ weighted s front f + weighted (s + length front) back f
weighted_append s [] back f = omega (arith, ap (λ s. weighted s back f) (same s))
  where
    same : (s : ℕ) → s ≡ s + 0
    same s = omega arith
weighted_append s (w ∷ front) back f = omega (arith, weighted_append (s + 1) front back f, ap (λ s. weighted s back f) (same s (length front)))
  where
    same : (s n : ℕ) → s + 1 + n ≡ s + suc n
    same s n = omega arith

times_leaf_other : (s u : ℕ) → (u ≡ s → ⊥) → occurrences s (leaves (Leaf u)) ≡ 0
times_leaf_other s u differs = elim (eqb_tells u s) [ inl same ↦ absurd (differs same.1) | inr other ↦ rw other.0 refl ]

times_leaf_same : (s : ℕ) → occurrences s (leaves (Leaf s)) ≡ 1
times_leaf_same s = elim (eqb_tells s s) [ inl same ↦ rw same.0 refl | inr other ↦ absurd (other.1 refl) ]

leaf_before : (s : ℕ) (ws : List ℕ) (u : ℕ) → u < s → weighted s ws (λ s. occurrences s (leaves (Leaf u))) ≡ 0
leaf_before s [] u low = refl
leaf_before s (w ∷ ws) u low = omega (arith, ap (λ n. w * n) (times_leaf_other s u (omega (arith, low))), leaf_before (s + 1) ws u (omega (arith, low)))

leaf_past : (s : ℕ) (ws : List ℕ) (u : ℕ) → s + length ws ≤ u → weighted s ws (λ s. occurrences s (leaves (Leaf u))) ≡ 0
leaf_past s [] u high = refl
leaf_past s (w ∷ ws) u high = omega (arith, ap (λ n. w * n) (times_leaf_other s u (omega (arith, high))), leaf_past (s + 1) ws u (omega (arith, high)))

leaf_first : (u w : ℕ) (back : List ℕ) → weighted u (w ∷ back) (λ s. occurrences s (leaves (Leaf u))) ≡ w
leaf_first u w back = omega (arith, ap (λ n. w * n) (times_leaf_same u), leaf_before (u + 1) back u (omega arith))

-- a leaf weighs as its symbol does
leaf_weight : (front : List ℕ) (w : ℕ) (back : List ℕ) → weight_of (front ++ w ∷ back) (Leaf (length front)) ≡ w
leaf_weight front w back =
    let u = length front in
    let f : ℕ → ℕ = λ s. occurrences s (leaves (Leaf u)) in
    omega (arith, weighted_append 0 front (w ∷ back) f, leaf_past 0 front u (omega arith), ap (λ s. weighted s (w ∷ back) f) (none u), leaf_first u w back)
  where
    none : (u : ℕ) → 0 + u ≡ u
    none u = omega arith

weighed_leaves_from : (front back : List ℕ) → AreWeighed (front ++ back) (leaves_from (length front) back)
weighed_leaves_from front [] = tt
weighed_leaves_from front (w ∷ back) =
    let longer = subst (λ n. AreWeighed ((front ++ w ∷ []) ++ back) (leaves_from n back)) (length_push front w) (weighed_leaves_from (front ++ w ∷ []) back) in
    let rest = subst (λ ws. AreWeighed ws (leaves_from (length front + 1) back)) (append_assoc front (w ∷ []) back) longer in
    weighed_put (front ++ w ∷ back) (record { weight = w; index = length front; tree = Leaf (length front) }) (leaves_from (length front + 1) back) (sym (leaf_weight front w back)) rest

pub weighed_leaves : (ws : List ℕ) → AreWeighed ws (leaves_from 0 ws)
weighed_leaves ws = weighed_leaves_from [] ws

leaves_cost_from : (ws : List ℕ) (index : ℕ) (back : List ℕ) → sum_by (λ x. tree_cost ws x.tree) (leaves_from index back) ≡ 0
leaves_cost_from ws index [] = refl
leaves_cost_from ws index (w ∷ back) = omega (arith, sum_put (λ x. tree_cost ws x.tree) (record { weight = w; index = index; tree = Leaf index }) (leaves_from (index + 1) back), leaves_cost_from ws (index + 1) back)

-- the cost of codewords is that of the depths
pub cost_depths : (t : Tree) (s : ℕ) (ws : List ℕ) (codewords : List (List Bool)) → length codewords ≡ length ws
    → ((i : ℕ) → i < length codewords → path t (s + i) ≡ Some (get_or codewords i [])) → cost ws codewords ≡ weighted s ws (depth t)
cost_depths t s [] codewords same each = refl
cost_depths t s (w ∷ ws) [] same each = absurd (omega (arith, same))
cost_depths t s (w ∷ ws) (bits ∷ codewords) same each =
    let here : depth t s ≡ length bits = ap (λ s. depth t s) (none s) ∙ ap bits_in (each 0 (omega arith)) in
    let rest = cost_depths t (s + 1) ws codewords (omega (arith, same)) (λ i within. ap (path t) (next s i) ∙ each (suc i) (omega (arith, within))) in
    omega (arith, rest, ap (λ n. w * n) here)
  where
    none : (s : ℕ) → s ≡ s + 0
    none s = omega arith

    next : (s i : ℕ) → s + 1 + i ≡ s + suc i
    next s i = omega arith

pub leaves_cost : (ws : List ℕ) → sum_by (λ x. tree_cost ws x.tree) (leaves_from 0 ws) ≡ 0
leaves_cost ws = leaves_cost_from ws 0 ws
