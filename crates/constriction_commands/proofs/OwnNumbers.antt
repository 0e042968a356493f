-- Weights of 32 bits are their own numbers.
use Rattle.std.proofs.Common.{◌≡◌, ℕ, ◌%◌, ◌^◌, List, [], ◌∷◌, ◌++◌, map, reverse, sum, sum_by, get_or, Fits, w32, ap, sym, ◌∙◌, arith}
use Rattle.std.proofs.lemmas.List.{reverse-append, reverse-reverse}
use Rattle.constriction_commands.specs.Coding.{EndsWithZero}
use Rattle.constriction_base.proofs.Turns.{map-reverse}
use Rattle.constriction_base.proofs.WordLists.{own_remainders, sum_of_remainders}

pub own_numbers : (weights : List ℕ) → ((i : ℕ) → Fits w32 (get_or weights i 0)) → map (λ x. x % 2 ^ 32) weights ≡ weights
own_numbers weights fits = own_remainders 32 weights (λ i. omega (arith, fits i))

pub own_sum : (weights : List ℕ) → ((i : ℕ) → Fits w32 (get_or weights i 0)) → sum_by (λ x. x % 2 ^ 32) weights ≡ sum weights
own_sum weights fits = sum_of_remainders 32 weights (λ i. omega (arith, fits i))

pub own_reverse : (words : List ℕ) → ((i : ℕ) → Fits w32 (get_or words i 0)) → map (λ x. x % 2 ^ 32) (reverse words) ≡ reverse words
own_reverse words fits = map-reverse (λ x. x % 2 ^ 32) words ∙ ap reverse (own_numbers words fits)

-- words whose top one is zero, by its number, end with zero
pub ends_with_zero : (words rest : List ℕ) (word : ℕ) → map (λ x. x % 2 ^ 32) (reverse words) ≡ reverse words → word % 2 ^ 32 ≡ 0 → reverse words ≡ word ∷ rest → EndsWithZero words
ends_with_zero words rest word own none is =
    let heads : ((word % 2 ^ 32) ∷ map (λ x. x % 2 ^ 32) rest) ≡ (word ∷ rest) = sym (ap (map (λ x. x % 2 ^ 32)) is) ∙ own ∙ is in
    let zero : word ≡ 0 = cc in
    (reverse rest, sym (reverse-reverse words) ∙ ap reverse is ∙ reverse-append (word ∷ []) rest ∙ ap (λ (w : ℕ). reverse rest ++ w ∷ []) zero)
