-- The weights with their indices, and their order after a sort.
use Rattle.std.proofs.Common.{◌≡◌, ◌+◌, ◌<◌, ◌≤◌, ℕ, suc, List, [], ◌∷◌, ◌++◌, map, false, rules, ◌⊎◌, length, take, get_or, ap, subst, ◌∙◌, arith, length-take}
use Rattle.std.proofs.lemmas.List.{take_more, length-map, map_push}
use Rattle.std.proofs.lemmas.List.Elements.{All-nil}
use Rattle.std.specs.List.Sorted.{IsSorted}
use Rattle.std.specs.Ordering.{is_lt, nat_cmp, on, then_cmp, ordering_then}
use Rattle.constriction_symbol.specs.declared.huffman.weighed.Weighed.{Weighed}
use Rattle.constriction_symbol.specs.Huffman.{IsPairLe, keys_from}
use Rattle.constriction_symbol.specs.Merging.{key_of, keys_of}
use Rattle.constriction_symbol.specs.Queues.{AreRising}
use Rattle.constriction_symbol.proofs.TwoQueues.{rising_cons}

keys_more : (ws : List ℕ) (k : ℕ) (w : ℕ) → keys_from k (ws ++ w ∷ []) ≡ keys_from k ws ++ (w, k + length ws) ∷ []
keys_more [] k w = ap (λ i. (w, i) ∷ []) (omega arith)
keys_more (v ∷ ws) k w = ap (λ xs. (v, k) ∷ xs) (keys_more ws (k + 1) w ∙ ap (λ i. keys_from (k + 1) ws ++ (w, i) ∷ []) (omega arith))

-- one weight more
pub keys_step : {X : Type 0} (f : X → ℕ) (xs : List X) (i : ℕ) (d : X) → i < length xs → keys_from 0 (map f (take (i + 1) xs)) ≡ keys_from 0 (map f (take i xs)) ++ (f (get_or xs i d), i) ∷ []
keys_step f xs i d h =
    let front = ap (map f) (take_more xs i d h) ∙ map_push f (take i xs) (get_or xs i d) in
    let n : 0 + length (map f (take i xs)) ≡ i = omega (arith, length-map (take i xs) f, length-take i xs) in
    ap (keys_from 0) front ∙ (keys_more (map f (take i xs)) 0 (f (get_or xs i d)) ∙ ap (λ k. keys_from 0 (map f (take i xs)) ++ (f (get_or xs i d), k) ∷ []) n)

-- what isn't above in the order of a set comes no later
no_later : (a b c d : ℕ) → is_lt (ordering_then (nat_cmp c a) (nat_cmp d b)) ≡ false → (a < c) ⊎ ((a ≡ c) × (b ≤ d))
no_later a b c d h = search rules

-- the order of a sort, one place on
sorted_later : {P Z : Type 0} (number : P → ℕ) (x : Weighed P Z) (xs : List (Weighed P Z)) (k : ℕ) (d : Weighed P Z) → is_lt (then_cmp (on (λ w. number w.weight) nat_cmp) (on (λ w. w.index) nat_cmp) (get_or (x ∷ xs) (suc k + 1) d) (get_or xs k d)) ≡ false
    → is_lt (then_cmp (on (λ w. number w.weight) nat_cmp) (on (λ w. w.index) nat_cmp) (get_or xs (k + 1) d) (get_or xs k d)) ≡ false
sorted_later number x xs k d is =
    subst (λ i. is_lt (then_cmp (on (λ w. number w.weight) nat_cmp) (on (λ w. w.index) nat_cmp) (get_or (x ∷ xs) i d) (get_or xs k d)) ≡ false) (next k) is
  where
    next : (k : ℕ) → suc k + 1 ≡ suc (k + 1)
    next k = omega arith

-- leaves that are sorted rise
pub rising_from_sorted : {P Z : Type 0} (number : P → ℕ) (xs : List (Weighed P Z)) → IsSorted (then_cmp (on (λ w. number w.weight) nat_cmp) (on (λ w. w.index) nat_cmp)) xs → AreRising (keys_of number xs)
rising_from_sorted number [] sorted = tt
rising_from_sorted number (x ∷ []) sorted = (All-nil (IsPairLe (key_of number x)), tt)
rising_from_sorted number (x ∷ y ∷ xs) sorted =
    let first : IsPairLe (key_of number x) (key_of number y) = no_later (number x.weight) x.index (number y.weight) y.index (sorted 0 x (omega arith) (omega arith)) in
    rising_cons (key_of number x) (key_of number y) (keys_of number xs) first
    (rising_from_sorted number (y ∷ xs) (λ k d low within. sorted_later number x (y ∷ xs) k d (sorted (suc k) d (omega arith) (omega (arith, within)))))
