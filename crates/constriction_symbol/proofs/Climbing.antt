-- Climbing from a node to the root, and one pair more in an array of parents.
use Rattle.std.proofs.Common.{◌≡◌, ◌+◌, ◌<◌, ◌*◌, ◌/◌, ◌%◌, ◌==◌, ℕ, List, [], ◌∷◌, ◌++◌, length, map, take, set, arith, sym, ap, subst, ◌∙◌, inl, inr, get_or, reverse, length-take}
use Rattle.std.proofs.lemmas.List.{get_or-map, length-map, reverse-append, take_more, map_push, take-map}
use Rattle.constriction_symbol.specs.Huffman.{AreUnions, GoesUp, IsParents, IsUnion, climbed}
use Rattle.constriction_symbol.proofs.HuffmanParents.{climbed_step, parents_more}
use Rattle.constriction_symbol.specs.Merging.{as_pair}

-- the last bit comes first
pub climbed_reversed : (nodes : List ℕ) (index : ℕ) → GoesUp (length nodes) nodes → (get_or nodes index 0 ≡ 0 → ⊥)
    → reverse (climbed (length nodes) nodes index) ≡ (get_or nodes index 0 % 2 == 1) ∷ reverse (climbed (length nodes) nodes (get_or nodes index 0 / 2))
climbed_reversed nodes index up some =
    ap reverse (climbed_step (length nodes) nodes index up some) ∙ reverse-append (climbed (length nodes) nodes (get_or nodes index 0 / 2)) ((get_or nodes index 0 % 2 == 1) ∷ [])

pub parent_within : (nodes : List ℕ) (index : ℕ) → GoesUp (length nodes) nodes → (get_or nodes index 0 ≡ 0 → ⊥) → get_or nodes index 0 / 2 < length nodes
parent_within nodes index up some = elim (up index) [ inl none ↦ absurd (some none) | inr above ↦ above.1 ]

pub parent_above : (nodes : List ℕ) (index : ℕ) → GoesUp (length nodes) nodes → (get_or nodes index 0 ≡ 0 → ⊥) → index < get_or nodes index 0 / 2
parent_above nodes index up some = elim (up index) [ inl none ↦ absurd (some none) | inr above ↦ above.0 ]

-- the union of a pair
pub union_at : (pairs : List (List ℕ)) (j : ℕ) → j < length pairs → AreUnions (length pairs + 1) (map as_pair pairs) → IsUnion (length pairs + 1) (map as_pair (take j pairs)) (as_pair (get_or pairs j []))
union_at pairs j within unions =
    let here = unions j (omega (arith, within, length-map pairs as_pair)) in
    let pair = get_or-map as_pair pairs j [] (0, 0) within in
    subst (λ before. IsUnion (length pairs + 1) before (as_pair (get_or pairs j []))) (take-map as_pair j pairs) (subst (λ p. IsUnion (length pairs + 1) (take j (map as_pair pairs)) p) pair here)

-- both children of a union are in the array
pub union_within : (pairs : List (List ℕ)) (j : ℕ) → j < length pairs → AreUnions (length pairs + 1) (map as_pair pairs)
    → (get_or (get_or pairs j []) 0 0 < 2 * length pairs + 1) × (get_or (get_or pairs j []) 1 0 < 2 * length pairs + 1)
union_within pairs j within unions =
    let union = union_at pairs j within unions in
    let before : length (map as_pair (take j pairs)) ≡ j = length-map (take j pairs) as_pair ∙ omega (arith, length-take j pairs, within) in
    (omega (arith, union.lesser_below, before, within), omega (arith, union.other_below, before, within))

pub parents_step : (pairs : List (List ℕ)) (j : ℕ) (nodes : List ℕ) → j < length pairs → length nodes ≡ 2 * length pairs + 1 → AreUnions (length pairs + 1) (map as_pair pairs)
    → IsParents (length pairs + 1) (map as_pair (take j pairs)) nodes
    → IsParents (length pairs + 1) (map as_pair (take (j + 1) pairs)) (set (set nodes (get_or (get_or pairs j []) 0 0) (2 * (length pairs + 1 + j))) (get_or (get_or pairs j []) 1 0) (2 * (length pairs + 1 + j) + 1))
parents_step pairs j nodes within size unions made =
    let pair = get_or pairs j [] in
    let union = union_at pairs j within unions in
    let inside = union_within pairs j within unions in
    let before : length (map as_pair (take j pairs)) ≡ j = length-map (take j pairs) as_pair ∙ omega (arith, length-take j pairs, within) in
    let more : map as_pair (take (j + 1) pairs) ≡ map as_pair (take j pairs) ++ as_pair pair ∷ [] = ap (map as_pair) (take_more pairs j [] within) ∙ map_push as_pair (take j pairs) pair in
    let next = parents_more (length pairs + 1) (map as_pair (take j pairs)) nodes (as_pair pair) (omega arith) union (omega (arith, inside.0, size)) (omega (arith, inside.1, size)) made in
    subst (λ ps. IsParents (length pairs + 1) ps (set (set nodes (get_or pair 0 0) (2 * (length pairs + 1 + j))) (get_or pair 1 0) (2 * (length pairs + 1 + j) + 1))) (sym more)
    (subst (λ k. IsParents (length pairs + 1) (map as_pair (take j pairs) ++ as_pair pair ∷ []) (set (set nodes (get_or pair 0 0) (2 * (length pairs + 1 + k))) (get_or pair 1 0) (2 * (length pairs + 1 + k) + 1))) before next)
