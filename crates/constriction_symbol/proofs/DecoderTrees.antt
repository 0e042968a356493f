-- The pairs that are merged hold the tree of the merge.
use Rattle.std.proofs.Common.{◌≡◌, ◌+◌, ◌-◌, ◌*◌, ◌<◌, ◌^◌, ℕ, List, [], ◌∷◌, length, map, arith, sym, ap, subst, ◌∙◌}
use Rattle.std.proofs.lemmas.List.{length-map}
use Rattle.std.proofs.lemmas.List.Sorted.{length_permutation}
use Rattle.constriction_symbol.specs.Huffman.{IsTreeAt, Tree, leaves, merge}
use Rattle.constriction_symbol.proofs.HuffmanTrees.{tree_at_is}
use Rattle.constriction_symbol.proofs.HuffmanMerge.{merge_leaves, merge_without_repeats, length_symbols}
use Rattle.constriction_symbol.specs.Merging.{ArePairs, as_pair}
use Rattle.constriction_symbol.specs.DecoderTree.{HoldsTree, tree_of_pairs}

-- the leaves are as many as the weights
pub count_leaves : (weights : List ℕ) (tree : Tree) → merge weights ≡ tree ∷ [] → length (leaves tree) ≡ length weights
count_leaves weights tree is = sym (length_permutation _ _ (merge_leaves weights tree is)) ∙ length_symbols 0 (length weights)

pub pairs_hold : (weights : List ℕ) (nodes : List (List ℕ)) → 2 * length weights < 2 ^ 64 → ArePairs weights nodes → HoldsTree nodes (tree_of_pairs nodes) × (merge weights ≡ tree_of_pairs nodes ∷ [])
pairs_hold weights nodes fit made =
    let tree = made.0 in
    let m = made.1 in
    let count : length (map as_pair nodes) ≡ length nodes = length-map nodes as_pair in
    let n : length weights ≡ length nodes + 1 = omega (arith, m.count, count) in
    let root : length weights + length (map as_pair nodes) - 1 ≡ length nodes + length nodes = omega (arith, n, count) in
    let at : IsTreeAt (length nodes + 1) (map as_pair nodes) (length nodes + length nodes) tree = subst (λ k. IsTreeAt k (map as_pair nodes) (length nodes + length nodes) tree) n (subst (λ i. IsTreeAt (length weights) (map as_pair nodes) i tree) root m.at) in
    let same : tree_of_pairs nodes ≡ tree = tree_at_is (length nodes + length nodes) (length nodes + 1) (map as_pair nodes) (length nodes + length nodes) tree (omega arith) at in
    let held : HoldsTree nodes tree = record {
      fits = omega (arith, n, fit);
      at = at;
      once = merge_without_repeats weights tree m.is;
      count = count_leaves weights tree m.is ∙ n;
    } in
    (subst (HoldsTree nodes) (sym same) held, m.is ∙ ap (λ t. t ∷ []) (sym same))
