-- The sums of a row of counts give the counts back.
use Rattle.std.specs.Prelude.{◌≡◌, ℕ, zero, suc, ◌+◌, ◌-◌, ◌*◌, ◌<◌, ◌≤◌, List, [], ◌∷◌, length, map, take}
use Rattle.std.specs.List.{sum, sum_by}
use Rattle.std.proofs.Common.{refl, ap, ◌∙◌, arith, get_or}
use Rattle.std.proofs.Math.Nat.{mul-le-mul_right}
use Rattle.std.proofs.lemmas.Grind.{same_number_lists}
use Rattle.std.proofs.lemmas.List.{length-map, take_all}
use Rattle.std.proofs.lemmas.List.Sums.{sum-map, sum_by_more}
use Rattle.constriction_base.specs.Tables.{Sums}
use Rattle.constriction_base.proofs.Sums.{sums_of_numbers}
use Rattle.constriction_models.specs.Cumulative.{AreSums, differences}

length_differences : (xs : List ℕ) → length (differences xs) ≡ length xs - 1
length_differences [] = refl
length_differences (x ∷ []) = refl
length_differences (x ∷ y ∷ ys) = omega (arith, length_differences (y ∷ ys))

difference_at : (xs : List ℕ) (k : ℕ) → k + 1 < length xs → get_or (differences xs) k 0 ≡ get_or xs (suc k) 0 - get_or xs k 0
difference_at [] k h = absurd (omega (arith, h))
difference_at (x ∷ []) k h = absurd (omega (arith, h))
difference_at (x ∷ y ∷ ys) zero h = refl
difference_at (x ∷ y ∷ ys) (suc k) h = difference_at (y ∷ ys) k (omega (arith, h))

pub counts_again : (counts sums : List ℕ) → AreSums counts sums → differences sums ≡ counts
counts_again counts sums s =
    same_number_lists (differences sums) counts (omega (arith, length_differences sums, s.len)) (λ k h.
    let inside : k < length counts = omega (arith, h, length_differences sums, s.len) in
    let next : suc k ≡ k + 1 = omega arith in
    let here = s.each k (omega (arith, inside)) in
    let after = s.each (k + 1) (omega (arith, inside)) in
    let more = sum_by_more (λ (count : ℕ). count) counts k 0 inside in
    let is = rw next at (difference_at sums k (omega (arith, inside, s.len))) in
    omega (arith, is, here, after, more))

pub differences_are : {C : Type 0} (number : C → ℕ) (counts : List C) (sums : List ℕ) → Sums number counts sums (length counts + 1) → differences sums ≡ map number counts
differences_are number counts sums s =
    counts_again (map number counts) sums (rw (length-map counts number) (sums_of_numbers number counts sums (length counts + 1) s))

pub sums_of_differences : {C : Type 0} (number : C → ℕ) (counts : List C) (sums : List ℕ) → Sums number counts sums (length counts + 1) → AreSums (differences sums) sums
sums_of_differences number counts sums s =
    rw (differences_are number counts sums s, length-map counts number) (sums_of_numbers number counts sums (length counts + 1) s)

pub length_are : {C : Type 0} (number : C → ℕ) (counts : List C) (sums : List ℕ) → Sums number counts sums (length counts + 1) → length (differences sums) ≡ length counts
length_are number counts sums s = ap (λ (xs : List ℕ). length xs) (differences_are number counts sums s) ∙ length-map counts number

pub sum_are : {C : Type 0} (number : C → ℕ) (counts : List C) (sums : List ℕ) → Sums number counts sums (length counts + 1) → sum (differences sums) ≡ sum_by number counts
sum_are number counts sums s = ap (λ (xs : List ℕ). sum xs) (differences_are number counts sums s) ∙ sum-map number counts

-- counts with a sum above 0 have a symbol
pub some_symbol : (counts : List ℕ) → 0 < sum counts → 0 < length counts
some_symbol [] some = absurd (omega (arith, some))
some_symbol (x ∷ xs) some = omega arith

-- the limit of a quantile is at most the scaled start past the last symbol
pub limit_within : (all spare q : ℕ) (counts : List ℕ) → spare + length counts ≡ all → q < all → (q + 1) * sum counts ≤ sum (take (length counts) counts) * spare + length counts * sum counts
limit_within all spare q counts shared below =
    let total : sum (take (length counts) counts) ≡ sum counts = ap (λ (xs : List ℕ). sum xs) (take_all (length counts) counts (omega arith)) in
    let part : sum (take (length counts) counts) * spare ≡ sum counts * spare = ap (λ (n : ℕ). n * spare) total in
    let whole : (spare + length counts) * sum counts ≡ all * sum counts = ap (λ (n : ℕ). n * sum counts) shared in
    let less : q + 1 ≤ all = omega (arith, below) in
    omega (arith, part, whole, mul-le-mul_right (sum counts) less)
