-- Merging some weights gives one tree, in which each symbol stands once: just the symbols that have a weight have a
-- codeword.
use Rattle.std.proofs.Common.{◌≡◌, ◌+◌, ◌<◌, ◌≤◌, ◌==◌, ℕ, zero, suc, Bool, List, [], ◌∷◌, ◌++◌, Some, None, ap, sym, inl, inr, refl, ◌∙◌, arith, if◌then◌else◌, length, map, flat_map, sum_by, IsPermutation, append_assoc, append-nil}
use Rattle.std.proofs.lemmas.Bool.{cond_both, cases_lt}
use Rattle.std.proofs.lemmas.Bool.Decides.{eqb_tells}
use Rattle.std.proofs.lemmas.List.Sums.{sum_by-cons}
use Rattle.std.proofs.lemmas.List.Sorted.{IsPermutation-refl, IsPermutation-trans, IsPermutation-append_left, IsPermutation-append_right, IsPermutation-append_comm, sum_by-IsPermutation, length_permutation}
use Rattle.constriction_symbol.specs.Huffman.{Tree, Weighed, comes_before, put_in, leaves_from, united, merged, merge, path, huffman, leaves, occurrences, IsWithoutRepeats, symbols_from, book_of, IsHuffman}
use Rattle.constriction_symbol.specs.Huffman.Tree.{Leaf}
use Rattle.constriction_symbol.specs.HuffmanLaws.{path_prefix_free}
use Rattle.constriction_symbol.proofs.HuffmanTrees.{path_none, path_some}

-- what one more in a set adds to a sum
pub sum_put : (f : Weighed → ℕ) (x : Weighed) (set : List Weighed) → sum_by f (put_in x set) ≡ f x + sum_by f set
sum_put f x [] = omega (arith, sum_by-cons f x [])
sum_put f x (y ∷ ys) =
    let whole = sum_by-cons f y ys in
    cond_both (comes_before x y) (x ∷ y ∷ ys) (y ∷ put_in x ys) (λ set. sum_by f set ≡ f x + sum_by f (y ∷ ys)) (λ _. sum_by-cons f x (y ∷ ys))
    (λ _. omega (arith, whole, sum_by-cons f y (put_in x ys), sum_put f x ys))

pub length_put : (x : Weighed) (set : List Weighed) → length (put_in x set) ≡ length set + 1
length_put x [] = refl
length_put x (y ∷ ys) =
    cond_both (comes_before x y) (x ∷ y ∷ ys) (y ∷ put_in x ys) (λ set. length set ≡ length (y ∷ ys) + 1) (λ _. omega arith) (λ _. omega (arith, length_put x ys))

pub length_leaves : (index : ℕ) (weights : List ℕ) → length (leaves_from index weights) ≡ length weights
length_leaves index [] = refl
length_leaves index (weight ∷ weights) =
    omega (arith, length_put (record { weight = weight; index = index; tree = Leaf index }) (leaves_from (index + 1) weights), length_leaves (index + 1) weights)

-- one is left of a set that isn't empty
pub merged_one : (n next : ℕ) (set : List Weighed) → 0 < length set → length set ≤ suc n → (x : Weighed) × (merged n next set ≡ x ∷ [])
merged_one n next [] some within = absurd (omega (arith, some))
merged_one zero next (x ∷ []) some within = (x, refl)
merged_one (suc n) next (x ∷ []) some within = (x, refl)
merged_one zero next (x ∷ y ∷ set) some within = absurd (omega (arith, within))
merged_one (suc n) next (x ∷ y ∷ set) some within =
    let more = length_put (united x y next) set in
    merged_one n (next + 1) (put_in (united x y next) set) (omega (arith, more)) (omega (arith, more, within))

-- merging some weights gives one tree
pub merge_one : (weights : List ℕ) → 0 < length weights → (tree : Tree) × (merge weights ≡ tree ∷ [])
merge_one weights some =
    let count = length_leaves 0 weights in
    let found = merged_one (length weights) (length weights) (leaves_from 0 weights) (omega (arith, count, some)) (omega (arith, count)) in
    (found.0.tree, ap (map (λ x. x.tree)) found.1)

-- the codewords are the paths in it
pub huffman_path : (weights : List ℕ) (tree : Tree) (symbol : ℕ) → merge weights ≡ tree ∷ [] → huffman weights symbol ≡ path tree symbol
huffman_path weights tree symbol is = rw is refl

-- the symbols of all trees of a set
abbrev gathered : List Weighed → List ℕ
gathered set = flat_map leaves (map (λ x. x.tree) set)

swap_front : (xs ys zs : List ℕ) → IsPermutation (xs ++ (ys ++ zs)) (ys ++ (xs ++ zs))
swap_front xs ys zs = rw (append_assoc xs ys zs, append_assoc ys xs zs) at (IsPermutation-append_left zs (xs ++ ys) (ys ++ xs) (IsPermutation-append_comm xs ys))

gathered_put : (x : Weighed) (set : List Weighed) → IsPermutation (gathered (put_in x set)) (leaves x.tree ++ gathered set)
gathered_put x [] = IsPermutation-refl (leaves x.tree ++ [])
gathered_put x (y ∷ ys) =
    let rest = IsPermutation-append_right (leaves y.tree) (gathered (put_in x ys)) (leaves x.tree ++ gathered ys) (gathered_put x ys) in
    cond_both (comes_before x y) (x ∷ y ∷ ys) (y ∷ put_in x ys) (λ set. IsPermutation (gathered set) (leaves x.tree ++ gathered (y ∷ ys))) (λ _. IsPermutation-refl (gathered (x ∷ y ∷ ys)))
    (λ _. IsPermutation-trans _ _ _ rest (swap_front (leaves y.tree) (leaves x.tree) (gathered ys)))

gathered_leaves : (index : ℕ) (weights : List ℕ) → IsPermutation (gathered (leaves_from index weights)) (symbols_from index (length weights))
gathered_leaves index [] = IsPermutation-refl []
gathered_leaves index (weight ∷ weights) =
    let put = gathered_put (record { weight = weight; index = index; tree = Leaf index }) (leaves_from (index + 1) weights) in
    IsPermutation-trans _ _ _ put (IsPermutation-append_right (index ∷ []) _ _ (gathered_leaves (index + 1) weights))

gathered_merged : (n next : ℕ) (set : List Weighed) → IsPermutation (gathered (merged n next set)) (gathered set)
gathered_merged zero next set = IsPermutation-refl (gathered set)
gathered_merged (suc n) next [] = IsPermutation-refl []
gathered_merged (suc n) next (x ∷ []) = IsPermutation-refl (gathered (x ∷ []))
gathered_merged (suc n) next (x ∷ y ∷ set) =
    let put = rw (append_assoc (leaves x.tree) (leaves y.tree) (gathered set)) at (gathered_put (united x y next) set) in
    IsPermutation-trans _ _ _ (gathered_merged n (next + 1) (put_in (united x y next) set)) put

-- the leaves of the tree are the symbols that have a weight
pub merge_leaves : (weights : List ℕ) (tree : Tree) → merge weights ≡ tree ∷ [] → IsPermutation (leaves tree) (symbols_from 0 (length weights))
merge_leaves weights tree is =
    let all = gathered_merged (length weights) (length weights) (leaves_from 0 weights) in
    let one : flat_map leaves (merge weights) ≡ leaves tree = ap (flat_map leaves) is ∙ append-nil (leaves tree) in
    IsPermutation-trans _ _ _ (rw one at all) (gathered_leaves 0 weights)

times_sum : (symbol : ℕ) (xs : List ℕ) → occurrences symbol xs ≡ sum_by (λ s. if s == symbol then 1 else 0) xs
times_sum symbol [] = refl
times_sum symbol (x ∷ xs) = ap (λ k. (if x == symbol then 1 else 0) + k) (times_sum symbol xs) ∙ sym (sum_by-cons (λ s. if s == symbol then 1 else 0) x xs)

pub times_permutation : (symbol : ℕ) (xs ys : List ℕ) → IsPermutation xs ys → occurrences symbol ys ≡ occurrences symbol xs
times_permutation symbol xs ys is = times_sum symbol ys ∙ (sum_by-IsPermutation (λ s. if s == symbol then 1 else 0) xs ys is ∙ sym (times_sum symbol xs))

times_below : (symbol from n : ℕ) → symbol < from → occurrences symbol (symbols_from from n) ≡ 0
times_below symbol from zero low = refl
times_below symbol from (suc n) low =
    let rest = times_below symbol (from + 1) n (omega (arith, low)) in
    elim (eqb_tells from symbol) [
      | inl same ↦ absurd (omega (arith, low, same.1))
      | inr other ↦ rw other.0 (omega (arith, rest))
    ]

times_past : (symbol from n : ℕ) → from + n ≤ symbol → occurrences symbol (symbols_from from n) ≡ 0
times_past symbol from zero high = refl
times_past symbol from (suc n) high =
    let rest = times_past symbol (from + 1) n (omega (arith, high)) in
    elim (eqb_tells from symbol) [
      | inl same ↦ absurd (omega (arith, high, same.1))
      | inr other ↦ rw other.0 (omega (arith, rest))
    ]

times_within : (symbol from n : ℕ) → from ≤ symbol → symbol < from + n → occurrences symbol (symbols_from from n) ≡ 1
times_within symbol from zero low high = absurd (omega (arith, low, high))
times_within symbol from (suc n) low high =
    elim (eqb_tells from symbol) [
      | inl same ↦ rw same.0 (omega (arith, times_below symbol (from + 1) n (omega (arith, same.1))))
      | inr other ↦ let differs : from ≡ symbol → ⊥ = other.1 in rw other.0 (omega (arith, times_within symbol (from + 1) n (omega (arith, low, differs)) (omega (arith, high))))
    ]

-- each symbol with a weight stands in the tree once
pub merge_times : (weights : List ℕ) (tree : Tree) (symbol : ℕ) → merge weights ≡ tree ∷ [] → symbol < length weights → occurrences symbol (leaves tree) ≡ 1
merge_times weights tree symbol is within =
    omega (arith, times_permutation symbol _ _ (merge_leaves weights tree is), times_within symbol 0 (length weights) (omega arith) (omega (arith, within)))

merge_times_past : (weights : List ℕ) (tree : Tree) (symbol : ℕ) → merge weights ≡ tree ∷ [] → length weights ≤ symbol → occurrences symbol (leaves tree) ≡ 0
merge_times_past weights tree symbol is past =
    omega (arith, times_permutation symbol _ _ (merge_leaves weights tree is), times_past symbol 0 (length weights) (omega (arith, past)))

-- none stands there twice
pub merge_without_repeats : (weights : List ℕ) (tree : Tree) → merge weights ≡ tree ∷ [] → IsWithoutRepeats (leaves tree)
merge_without_repeats weights tree is symbol =
    elim (cases_lt symbol (length weights)) [
      | inl within ↦ omega (arith, merge_times weights tree symbol is within)
      | inr past ↦ omega (arith, merge_times_past weights tree symbol is past)
    ]

-- a symbol with a weight has a codeword
pub merge_path_some : (weights : List ℕ) (tree : Tree) (symbol : ℕ) → merge weights ≡ tree ∷ [] → symbol < length weights → (bits : List Bool) × (path tree symbol ≡ Some bits)
merge_path_some weights tree symbol is within = path_some tree symbol (omega (arith, merge_times weights tree symbol is within))

-- a symbol past the last has none
pub merge_path_none : (weights : List ℕ) (tree : Tree) (symbol : ℕ) → merge weights ≡ tree ∷ [] → length weights ≤ symbol → path tree symbol ≡ None
merge_path_none weights tree symbol is past = path_none tree symbol (merge_times_past weights tree symbol is past)

pub length_symbols : (from n : ℕ) → length (symbols_from from n) ≡ n
length_symbols from zero = refl
length_symbols from (suc n) = ap suc (length_symbols (from + 1) n)

-- the book of the tree is that of the weights
pub merged_book : (weights : List ℕ) (tree : Tree) → merge weights ≡ tree ∷ [] → IsHuffman weights (book_of tree)
merged_book weights tree is =
    let count = length_permutation (leaves tree) (symbols_from 0 (length weights)) (merge_leaves weights tree is) in
    (sym count ∙ length_symbols 0 (length weights), λ symbol. sym (huffman_path weights tree symbol is))

-- no codeword under some weights begins another
pub huffman_prefix_free : (weights : List ℕ) (symbol other : ℕ) (bits tail : List Bool) → huffman weights symbol ≡ Some bits → huffman weights other ≡ Some (bits ++ tail) → symbol ≡ other
huffman_prefix_free [] symbol other bits tail first second = absurd cc
huffman_prefix_free (weight ∷ weights) symbol other bits tail first second =
    let one = merge_one (weight ∷ weights) (omega arith) in
    path_prefix_free one.0 symbol other bits tail (sym (huffman_path (weight ∷ weights) one.0 symbol one.1) ∙ first) (sym (huffman_path (weight ∷ weights) one.0 other one.1) ∙ second)
