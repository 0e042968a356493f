-- The parents of the pairs that are merged hold the tree of the merge.
use Rattle.std.proofs.Common.{◌≡◌, ◌+◌, ◌*◌, ◌/◌, ℕ, List, [], ◌∷◌, length, map, arith, sym, ap, subst, ◌∙◌}
use Rattle.std.proofs.lemmas.List.{length-map}
use Rattle.constriction_symbol.specs.Huffman.{AreUnions, GoesUp, IsParents, merge}
use Rattle.constriction_symbol.proofs.HuffmanMerge.{huffman_path}
use Rattle.constriction_symbol.proofs.HuffmanParents.{huffman_climbed, huffman_none, tree_in_is}
use Rattle.constriction_symbol.specs.Merging.{ArePairs, as_pair}
use Rattle.constriction_symbol.specs.EncoderTree.{ClimbsTree, tree_of_parents}
use Rattle.constriction_symbol.proofs.DecoderTrees.{count_leaves}

-- the unions of the pairs
pub pairs_unions : (weights : List ℕ) (pairs : List (List ℕ)) → ArePairs weights pairs → AreUnions (length pairs + 1) (map as_pair pairs) × (length weights ≡ length pairs + 1)
pairs_unions weights pairs made =
    let m = made.1 in
    let n : length weights ≡ length pairs + 1 = omega (arith, m.count, length-map pairs as_pair) in
    (subst (λ k. AreUnions k (map as_pair pairs)) n m.unions, n)

pub parents_climb : (weights : List ℕ) (pairs : List (List ℕ)) (nodes : List ℕ) → ArePairs weights pairs → length nodes ≡ 2 * length pairs + 1 → IsParents (length pairs + 1) (map as_pair pairs) nodes
    → ClimbsTree nodes (tree_of_parents nodes) × (merge weights ≡ tree_of_parents nodes ∷ [])
parents_climb weights pairs nodes made size parents₀ =
    let tree = made.0 in
    let m = made.1 in
    let count : length (map as_pair pairs) ≡ length pairs = length-map pairs as_pair in
    let n : length weights ≡ length pairs + 1 = omega (arith, m.count, count) in
    let parents : IsParents (length weights) (map as_pair pairs) nodes = subst (λ k. IsParents k (map as_pair pairs) nodes) (sym n) parents₀ in
    let all : length nodes ≡ length weights + length (map as_pair pairs) = omega (arith, size, n, count) in
    let half : length nodes / 2 + 1 ≡ length weights = omega (arith, size, n) in
    let same : tree_of_parents nodes ≡ tree = tree_in_is weights (map as_pair pairs) tree nodes (length nodes) m parents all (omega arith) in
    let held : ClimbsTree nodes tree = record {
      up = subst (λ k. GoesUp k nodes) (sym all) parents.up;
      some = omega (arith, size);
      count = count_leaves weights tree m.is ∙ sym half;
      known = λ symbol low. sym (huffman_path weights tree symbol m.is) ∙ huffman_climbed weights (map as_pair pairs) tree nodes symbol (length nodes) m parents (omega (arith, all)) (omega (arith, low, half));
      none = λ symbol high. sym (huffman_path weights tree symbol m.is) ∙ huffman_none weights (map as_pair pairs) tree symbol m (omega (arith, high, half));
    } in
    (subst (ClimbsTree nodes) (sym same) held, m.is ∙ ap (λ t. t ∷ []) (sym same))
