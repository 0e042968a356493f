-- Bounds on the products by which a row of counts finds a quantile's symbol.
use Rattle.std.specs.Prelude.{◌≡◌, ℕ, ◌+◌, ◌-◌, ◌*◌, ◌/◌, ◌^◌, ◌<◌, ◌≤◌, List, [], ◌∷◌, length, take, drop}
use Rattle.std.specs.List.{sum, sum_by}
use Rattle.std.proofs.Common.{ap, ◌∙◌, arith}
use Rattle.std.proofs.Math.Nat.{mul-le-mul_right}
use Rattle.std.proofs.lemmas.List.{drop-take, length-drop, take-take, take_all}
use Rattle.std.proofs.lemmas.List.Sums.{sum_by-cons, sum_by-take-drop}
use Rattle.constriction_base.proofs.Sizes.{pow_le}

-- no scaled start is above the one past the last symbol
pub scaled_within : (all spare total count before symbol : ℕ) → spare + count ≡ all → before ≤ total → symbol ≤ count → before * spare + symbol * total ≤ all * total
scaled_within all spare total count before symbol shared less inside =
    let first = mul-le-mul_right spare less in
    let second = mul-le-mul_right total inside in
    let whole : (spare + count) * total ≡ all * total = ap (λ (n : ℕ). n * total) shared in
    omega (arith, first, second, whole)

-- and that one fits 64 bits
pub limit_fits : (precision total : ℕ) → precision ≤ 24 → total < 1099511627776 → 2 ^ precision * total < 18446744073709551616
limit_fits precision total few fits =
    let most : 2 ^ precision ≤ 2 ^ 24 = pow_le precision 24 few in
    omega (arith, mul-le-mul_right total most, fits)

pub scaled_fits : (precision spare total count before symbol : ℕ) → precision ≤ 24 → total < 1099511627776 → spare + count ≡ 2 ^ precision → before ≤ total → symbol ≤ count → before * spare + symbol * total < 18446744073709551616
scaled_fits precision spare total count before symbol few fits shared less inside =
    omega (arith, scaled_within (2 ^ precision) spare total count before symbol shared less inside, limit_fits precision total few fits)

-- the scaled start past the last symbol isn't below any limit of a quantile
pub not_all : (all spare limit k before : ℕ) (counts : List ℕ) → spare + length counts ≡ all → limit ≤ all * sum counts → k ≡ length counts → before ≡ sum (take k counts) → before * spare + k * sum counts < limit → ⊥
not_all all spare limit k before counts shared most is before_is less =
    let whole : before ≡ sum counts = before_is ∙ (ap (λ (n : ℕ). sum (take n counts)) is ∙ ap (λ (xs : List ℕ). sum xs) (take_all (length counts) counts (omega arith))) in
    let part : before * spare ≡ sum counts * spare = ap (λ (n : ℕ). n * spare) whole in
    let count : k * sum counts ≡ length counts * sum counts = ap (λ (n : ℕ). n * sum counts) is in
    let all_is : (spare + length counts) * sum counts ≡ all * sum counts = ap (λ (n : ℕ). n * sum counts) shared in
    omega (arith, part, count, all_is, most, less)

-- ---- sums
-- a block of counts behind the first ones
pub sum_block : (k n : ℕ) (counts : List ℕ) → sum (take k counts) + sum (take n (drop k counts)) ≡ sum (take (k + n) counts)
sum_block k n counts =
    let front : sum (take k (take (k + n) counts)) ≡ sum (take k counts) = ap (λ (xs : List ℕ). sum xs) (take-take k (k + n) counts (omega arith)) in
    let block : sum (drop k (take (k + n) counts)) ≡ sum (take n (drop k counts)) = ap (λ (xs : List ℕ). sum xs) (drop-take k n counts) in
    omega (arith, sum_by-take-drop (λ (x : ℕ). x) (take (k + n) counts) k, front, block)

-- as a loop adds it up
pub block_more : (k n block before : ℕ) (counts : List ℕ) → before ≡ sum (take k counts) → block ≡ sum (take (k + n - k) (drop k counts)) → before + block ≡ sum (take (k + n) counts)
block_more k n block before counts is added =
    let long : k + n - k ≡ n = omega arith in
    omega (arith, is, rw long at added, sum_block k n counts)

-- the counts before a symbol, and all others
pub split_whole : (k before rest : ℕ) (counts : List ℕ) → k ≤ length counts → before ≡ sum (take k counts) → rest ≡ sum (take (length counts - k) (drop k counts)) → before + rest ≡ sum counts
split_whole k before rest counts inside is rest_is =
    let all : sum (take (length counts - k) (drop k counts)) ≡ sum (drop k counts) = ap (λ (xs : List ℕ). sum xs) (take_all (length counts - k) (drop k counts) (omega (arith, length-drop k counts))) in
    omega (arith, is, rest_is, all, sum_by-take-drop (λ (x : ℕ). x) counts k)

-- a sum is between two bounds that the counts' upper halves give
pub high_least : (counts : List ℕ) → sum_by (λ (count : ℕ). count / 65536) counts * 65536 ≤ sum counts
high_least [] = omega arith
high_least (x ∷ xs) =
    omega (arith, high_least xs, sum_by-cons (λ (count : ℕ). count / 65536) x xs, sum_by-cons (λ (count : ℕ). count) x xs)

pub high_most : (counts : List ℕ) → sum counts ≤ sum_by (λ (count : ℕ). count / 65536) counts * 65536 + length counts * 65535
high_most [] = omega arith
high_most (x ∷ xs) =
    omega (arith, high_most xs, sum_by-cons (λ (count : ℕ). count / 65536) x xs, sum_by-cons (λ (count : ℕ). count) x xs)
