-- Lists of words, and that they fit.
use Rattle.std.proofs.Common.{ℕ, zero, suc, ◌/◌, ◌%◌, ◌^◌, ◌<◌, List, [], ◌∷◌, ◌++◌, map, get_or, pow_pos, ◌≡◌, refl, sym, ap, ap₂, ◌∙◌, arith, length, sum, sum_by, mod-eq_of_lt}
use Rattle.std.proofs.lemmas.Nat.{mod_below}
use Rattle.constriction_base.specs.Digits.{fixed_digits}
use Rattle.constriction_base.specs.Steps.{AreWords}
use Rattle.std.specs.List.{zip}
use Rattle.std.proofs.lemmas.List.Sums.{sum_by-cons}

pub words-append : (w : ℕ) (xs ys : List ℕ) → AreWords w xs → AreWords w ys → AreWords w (xs ++ ys)
words-append w [] ys h g = g
words-append w (x ∷ xs) ys h g = (h.0, words-append w xs ys h.1 g)

-- those behind others are words
pub words_behind : (w : ℕ) (own rest : List ℕ) → AreWords w (own ++ rest) → AreWords w rest
words_behind w [] rest fit = fit
words_behind w (x ∷ own) rest fit = words_behind w own rest fit.1

-- words of a type fit
pub words_fit : {A : Type 0} (w : ℕ) (number : A → ℕ) → ((x : A) → number x < 2 ^ w) → (xs : List A) → AreWords w (map number xs)
words_fit w number law [] = tt
words_fit w number law (x ∷ xs) = (law x, words_fit w number law xs)

-- past the end stands zero, so each word read is below the base
pub word_below : (w : ℕ) (ws : List ℕ) (i : ℕ) → AreWords w ws → get_or ws i 0 < 2 ^ w
word_below w [] i h = pow_pos w
word_below w (x ∷ ws) zero h = h.0
word_below w (x ∷ ws) (suc i) h = word_below w ws i h.1

-- digits of a number are words
pub words-fixed_digits : (w k n : ℕ) → AreWords w (fixed_digits (2 ^ w) k n)
words-fixed_digits w zero n = tt
words-fixed_digits w (suc k) n = words-append w (fixed_digits (2 ^ w) k (n / 2 ^ w)) (n % 2 ^ w ∷ []) (words-fixed_digits w k (n / 2 ^ w)) (mod_below n (2 ^ w) (pow_pos w), tt)

-- numbers of few bits are what is left of them
pub own_remainders : (bits : ℕ) (xs : List ℕ) → ((i : ℕ) → get_or xs i 0 < 2 ^ bits) → map (λ x. x % 2 ^ bits) xs ≡ xs
own_remainders bits [] fits = refl
own_remainders bits (x ∷ xs) fits = ap₂ (λ (n : ℕ) (ns : List ℕ). n ∷ ns) (mod-eq_of_lt (fits 0)) (own_remainders bits xs (λ i. fits (suc i)))

pub sum_of_remainders : (bits : ℕ) (xs : List ℕ) → ((i : ℕ) → get_or xs i 0 < 2 ^ bits) → sum_by (λ x. x % 2 ^ bits) xs ≡ sum xs
sum_of_remainders bits [] fits = refl
sum_of_remainders bits (x ∷ xs) fits =
    let first : x % 2 ^ bits ≡ x = mod-eq_of_lt (fits 0) in
    let rest = sum_of_remainders bits xs (λ i. fits (suc i)) in
    sum_by-cons (λ n. n % 2 ^ bits) x xs ∙ rw (first, rest) (sym (sum_by-cons (λ n. n) x xs))

-- pairs of two lists that each get one more at their end
pub zip_push : {A B : Type 0} (xs : List A) (ys : List B) (x : A) (y : B) → length xs ≡ length ys → zip (xs ++ x ∷ []) (ys ++ y ∷ []) ≡ zip xs ys ++ (x, y) ∷ []
zip_push [] [] x y same = refl
zip_push [] (b ∷ ys) x y same = absurd (omega arith)
zip_push (a ∷ xs) [] x y same = absurd (omega arith)
zip_push {A} {B} (a ∷ xs) (b ∷ ys) x y same = ap (λ (pairs : List (A × B)). (a, b) ∷ pairs) (zip_push xs ys x y (omega arith))
