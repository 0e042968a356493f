-- The codewords of a Huffman tree cost least.
use Rattle.std.proofs.Common.{Option, suc, zero, ◌≡◌, ◌+◌, ◌-◌, ◌*◌, ◌^◌, ◌≤◌, ℕ, Bool, List, [], ◌∷◌, ap, sym, refl, ◌∙◌, arith, length, map, sum_by, ◌++◌, ◌<◌, get_or, Some}
use Rattle.std.proofs.lemmas.List.{length-map}
use Rattle.constriction_symbol.specs.Huffman.{Weighed, huffman, leaves_from, merge, path}
use Rattle.constriction_symbol.specs.Huffman.Tree.{Leaf}
use Rattle.constriction_symbol.proofs.HuffmanMerge.{huffman_path, huffman_prefix_free, length_leaves, length_put, merge_without_repeats, merged_one}
use Rattle.constriction_laws.specs.symbol.Cost.{AreCodewordsOf, AreLawful, cost}
use Rattle.constriction_symbol.proofs.TreeCodewords.{known_symbol}
use Rattle.constriction_laws.proofs.of_symbol.least_cost.Lengths.{AreAscending, AreAtMost, ascending_put, at_most_beside, kraft, kraft_beside, length_beside, put_beside, spent, spent_beside, unions, unions_least}
use Rattle.constriction_laws.proofs.of_symbol.least_cost.Kraft.{kraft_bound, lawful_apart, some_most}
use Rattle.constriction_laws.proofs.of_symbol.least_cost.Depths.{cost_depths, depths_cost, leaves_cost, merged_cost, tree_cost, weighed_leaves}

-- lengths for symbols in order, as those of the leaves in the order of the set
lengths_of : ℕ → List ℕ → List ℕ → List ℕ
lengths_of index [] ls = ls
lengths_of index (w ∷ ws) [] = []
lengths_of index (w ∷ ws) (l ∷ ls) = put_beside (record { weight = w; index = index; tree = Leaf index }) l (leaves_from (index + 1) ws) (lengths_of (index + 1) ws ls)

length_lengths : (index : ℕ) (ws ls : List ℕ) → length ls ≡ length ws → length (lengths_of index ws ls) ≡ length (leaves_from index ws)
unfolding lengths_of
length_lengths index [] ls same = same
length_lengths index (w ∷ ws) [] same = absurd (omega (arith, same))
length_lengths index (w ∷ ws) (l ∷ ls) same =
    let x : Weighed = record { weight = w; index = index; tree = Leaf index } in
    length_beside x l (leaves_from (index + 1) ws) (lengths_of (index + 1) ws ls) (length_lengths (index + 1) ws ls (omega (arith, same))) ∙ sym (length_put x (leaves_from (index + 1) ws))

kraft_lengths : (most index : ℕ) (ws ls : List ℕ) → length ls ≡ length ws → kraft most (lengths_of index ws ls) ≡ kraft most ls
unfolding lengths_of
kraft_lengths most index [] ls same = refl
kraft_lengths most index (w ∷ ws) [] same = absurd (omega (arith, same))
kraft_lengths most index (w ∷ ws) (l ∷ ls) same =
    let x : Weighed = record { weight = w; index = index; tree = Leaf index } in
    let rest : length ls ≡ length ws = omega (arith, same) in
    kraft_beside most x l (leaves_from (index + 1) ws) (lengths_of (index + 1) ws ls) (length_lengths (index + 1) ws ls rest) ∙ ap (λ k. 2 ^ (most - l) + k) (kraft_lengths most (index + 1) ws ls rest)

at_most_lengths : (most index : ℕ) (ws ls : List ℕ) → AreAtMost most ls → AreAtMost most (lengths_of index ws ls)
unfolding lengths_of
at_most_lengths most index [] ls all = all
at_most_lengths most index (w ∷ ws) [] all = tt
at_most_lengths most index (w ∷ ws) (l ∷ ls) all =
    at_most_beside most (record { weight = w; index = index; tree = Leaf index }) l (leaves_from (index + 1) ws) (lengths_of (index + 1) ws ls) all.0 (at_most_lengths most (index + 1) ws ls all.1)

spent_lengths : (index : ℕ) (ws : List ℕ) (codewords : List (List Bool)) → length codewords ≡ length ws → spent (leaves_from index ws) (lengths_of index ws (map length codewords)) ≡ cost ws codewords
unfolding lengths_of
spent_lengths index [] codewords same = refl
spent_lengths index (w ∷ ws) [] same = absurd (omega (arith, same))
spent_lengths index (w ∷ ws) (bits ∷ codewords) same =
    let x : Weighed = record { weight = w; index = index; tree = Leaf index } in
    let rest : length codewords ≡ length ws = omega (arith, same) in
    let count : length (map length codewords) ≡ length ws = length-map codewords length ∙ rest in
    let ls = lengths_of (index + 1) ws (map length codewords) in
    spent_beside x (length bits) (leaves_from (index + 1) ws) ls (length_lengths (index + 1) ws (map length codewords) count) ∙ ap (λ k. w * length bits + k) (spent_lengths (index + 1) ws codewords rest)

ascending_leaves : (index : ℕ) (ws : List ℕ) → AreAscending 0 (leaves_from index ws)
ascending_leaves index [] = tt
ascending_leaves index (w ∷ ws) = ascending_put 0 (record { weight = w; index = index; tree = Leaf index }) (leaves_from (index + 1) ws) (omega arith) (ascending_leaves (index + 1) ws)

-- no lawful codewords cost less than the unions weigh
unions_least_cost : (ws : List ℕ) (others : List (List Bool)) → length others ≡ length ws → AreLawful others → unions (length ws) (length ws) (leaves_from 0 ws) ≤ cost ws others
unions_least_cost ws others same lawful =
    let ls = map length others in
    let count : length ls ≡ length ws = length-map others length ∙ same in
    let bound = some_most ls in
    let keeps : kraft bound.0 (lengths_of 0 ws ls) ≤ 2 ^ bound.0 = omega (arith, kraft_lengths bound.0 0 ws ls count, kraft_bound bound.0 others (lawful_apart others lawful) bound.1) in
    let least = unions_least (length ws) (length ws) (leaves_from 0 ws) bound.0 (lengths_of 0 ws ls) (ascending_leaves 0 ws) (length_lengths 0 ws ls count) (at_most_lengths bound.0 0 ws ls bound.1) keeps in
    omega (arith, least, spent_lengths 0 ws others same)

-- the codewords of the tree cost what the unions weigh
tree_costs_unions : (ws : List ℕ) (codewords : List (List Bool)) → length codewords ≡ length ws → AreCodewordsOf (huffman ws) codewords → cost ws codewords ≡ unions (length ws) (length ws) (leaves_from 0 ws)
tree_costs_unions [] codewords same of = refl
tree_costs_unions (w ∷ ws) codewords same of =
    let weights = w ∷ ws in
    let n = length weights in
    let set = leaves_from 0 weights in
    let count = length_leaves 0 weights in
    let found = merged_one n n set (omega (arith, count)) (omega (arith, count)) in
    let tree = found.0.tree in
    let is : merge weights ≡ tree ∷ [] = ap (map (λ x. x.tree)) found.1 in
    let f : Weighed → ℕ = λ x. tree_cost weights x.tree in
    let depths = depths_cost weights tree (merge_without_repeats weights tree is) in
    let whole = cost_depths tree 0 weights codewords same (λ s within. ap (path tree) (none s) ∙ (sym (huffman_path weights tree s is) ∙ of s within)) in
    omega (arith, whole, depths, ap (sum_by f) found.1, merged_cost weights n n set (weighed_leaves weights), leaves_cost weights)
  where
    none : (s : ℕ) → 0 + s ≡ s
    none s = omega arith

-- no lawful codewords cost less than those of the tree
pub least : (weights : List ℕ) (codewords others : List (List Bool)) → length codewords ≡ length weights → AreCodewordsOf (huffman weights) codewords → length others ≡ length weights → AreLawful others
    → cost weights codewords ≤ cost weights others
least weights codewords others same of count lawful = omega (arith, tree_costs_unions weights codewords same of, unions_least_cost weights others count lawful)

-- a codeword for each symbol from one on
codewords_from : (weights : List ℕ) (n from : ℕ) → from + n ≡ length weights → (codewords : List (List Bool)) × (length codewords ≡ n) × ((s : ℕ) → s < n → huffman weights (from + s) ≡ Some (get_or codewords s []))
codewords_from weights zero from whole = ([], refl, λ s none. absurd (omega (arith, none)))
codewords_from weights (suc n) from whole =
    let first = known_symbol weights from (omega (arith, whole)) in
    let rest = codewords_from weights n (from + 1) (omega (arith, whole)) in
    (first.0 ∷ rest.0, ap suc rest.1, each first.0 rest.0 first.1 rest.2)
  where
    each : (bits : List Bool) (rest : List (List Bool)) → huffman weights from ≡ Some bits → ((s : ℕ) → s < n → huffman weights (from + 1 + s) ≡ Some (get_or rest s [])) → (s : ℕ) → s < suc n → huffman weights (from + s) ≡ Some (get_or (bits ∷ rest) s [])
    each bits rest first later zero within = ap (huffman weights) (same from) ∙ first
      where
        same : (from : ℕ) → from + 0 ≡ from
        same from = omega arith
    each bits rest first later (suc s) within = ap (huffman weights) (same from s) ∙ later s (omega (arith, within))
      where
        same : (from s : ℕ) → from + suc s ≡ from + 1 + s
        same from s = omega arith

-- codewords of a lawful codebook are lawful
pub lawful_of_book : (codeword : ℕ → Option (List Bool)) (codewords : List (List Bool)) → ((s t : ℕ) (bits tail : List Bool) → codeword s ≡ Some bits → codeword t ≡ Some (bits ++ tail) → s ≡ t) → AreCodewordsOf codeword codewords
    → AreLawful codewords
lawful_of_book codeword codewords lawful of s t tail low lower is = lawful s t (get_or codewords s []) tail (of s low) (of t lower ∙ ap Some is)

-- the tree's own codewords are lawful
pub own_codewords : (weights : List ℕ) → (codewords : List (List Bool)) × (length codewords ≡ length weights) × AreCodewordsOf (huffman weights) codewords × AreLawful codewords
own_codewords weights =
    let found = codewords_from weights (length weights) 0 (omega arith) in
    let of : AreCodewordsOf (huffman weights) found.0 = λ s within. ap (huffman weights) (same s) ∙ found.2 s (omega (arith, within, found.1)) in
    (found.0, found.1, of, lawful_of_book (huffman weights) found.0 (huffman_prefix_free weights) of)
  where
    same : (s : ℕ) → s ≡ 0 + s
    same s = omega arith
