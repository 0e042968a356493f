-- The quotient by a number, by a product and a shift.
use Rattle.std.proofs.Common.{◌≡◌, ℕ, suc, ◌+◌, ◌-◌, ◌*◌, ◌/◌, ◌%◌, ◌^◌, ◌<◌, ◌≤◌, ap, ◌∙◌, inl, inr, arith, mul-le-mul_right, mul-le-mul_left}
use Rattle.std.proofs.lemmas.Bool.{cases_lt}
use Rattle.std.proofs.lemmas.Nat.{div-add-mod', div-mul-add, leading_top, mod_below, one_shl, pow_below, pow_pos, pow-add, shr-shr}
use Rattle.std.proofs.Math.Nat.{div-le_self, mod-eq_of_lt}
use lib.Count.{count_leading_zeros}
use Rattle.constriction_words.specs.Reciprocals.{ComputesQuotients}

-- a quotient, from the two multiples between which the number lies
pub quotient_is : (n d q : ℕ) → q * d ≤ n → n < q * d + d → n / d ≡ q
quotient_is n d q from below =
    let rest : n - q * d < d = omega arith in
    let is : n ≡ q * d + (n - q * d) = omega arith in
    rw is (div-mul-add q d (n - q * d) rest)

-- a common factor, left out of an order
pub factor_le : (p a b : ℕ) → 0 < p → a * p ≤ b * p → a ≤ b
factor_le p a b some le = elim (cases_lt b a) [
  | inl less ↦ let next : suc b * p ≤ a * p = mul-le-mul_right p less in omega (arith, next)
  | inr is ↦ is
]

pub factor_lt : (p a b : ℕ) → a * p < b * p → a < b
factor_lt p a b lt = elim (cases_lt a b) [
  | inl less ↦ less
  | inr is ↦ let next : b * p ≤ a * p = mul-le-mul_right p is in omega (arith, next)
]

-- a quotient by p of x, from where p times the sum lies beside x times d
quotient_as : (d p s x : ℕ) → 0 < p → x * d ≤ s * p → s * p < suc x * d → s / d ≡ x / p
quotient_as d p s x some from below =
    let q = x / p in
    let split : x / p * p + x % p ≡ x = div-add-mod' x p in
    let rest : x % p < p = mod_below x p some in
    let first : (q * p) * d ≤ x * d = mul-le-mul_right d (omega arith) in
    let last : suc x * d ≤ (q * p + p) * d = mul-le-mul_right d (omega arith) in
    let low : q * d ≤ s = factor_le p (q * d) s some (omega (arith, first, from)) in
    let high : s < q * d + d = factor_lt p s (q * d + d) (omega (arith, last, below)) in
    quotient_is s d q low high

-- the multiplier's product with p is less than d, by e: one more time the multiplier makes up for it
pub from_below : (u d p m e x : ℕ) → 0 < p → m * p + e ≡ d → 0 < e → e * u ≤ d → x < u → (x * m + m) / d ≡ x / p
from_below u d p m e x some is short small within =
    let all : suc x * (m * p + e) ≡ suc x * d = ap (λ y. suc x * y) is in
    let most : e * suc x ≤ e * u = mul-le-mul_left e within in
    let least : e * 1 ≤ e * suc x = mul-le-mul_left e (omega arith) in
    quotient_as d p (x * m + m) x some (omega (arith, all, most)) (omega (arith, all, least))

-- it is more, by e
pub from_above : (u d p m e x : ℕ) → 0 < p → m * p ≡ d + e → e * u < d → x < u → (x * m + 0) / d ≡ x / p
from_above u d p m e x some is small within =
    let all : x * (m * p) ≡ x * (d + e) = ap (λ y. x * y) is in
    let most : e * x ≤ e * u = mul-le-mul_left e (omega arith) in
    quotient_as d p (x * m + 0) x some (omega (arith, all)) (omega (arith, all, most))

-- ---- how the two numbers are made, from what d - 1 leaves
-- where little is left, the quotient, which is too small, serves as both
pub made_below : (n k p : ℕ) → 0 < p → (2 ^ (n + k) - 1) % p < 2 ^ k
    → ComputesQuotients n p ((2 ^ (n + k) - 1) / p) ((2 ^ (n + k) - 1) / p) k
made_below n k p some little x within =
    let d = 2 ^ (n + k) in
    let split : (d - 1) / p * p + (d - 1) % p ≡ d - 1 = div-add-mod' (d - 1) p in
    let pos : 0 < d = pow_pos (n + k) in
    let is : (d - 1) / p * p + suc ((d - 1) % p) ≡ d = omega arith in
    let product : d ≡ 2 ^ n * 2 ^ k = pow-add 2 n k in
    let small : suc ((d - 1) % p) * 2 ^ n ≤ 2 ^ k * 2 ^ n = mul-le-mul_right (2 ^ n) little in
    from_below (2 ^ n) d p ((d - 1) / p) (suc ((d - 1) % p)) x some is (omega arith) (omega (arith, small, product)) within

-- else one more than it, which is too large, and nothing is added
pub made_above : (n k p : ℕ) → 0 < p → p < 2 ^ k * 2 → 2 ^ k ≤ (2 ^ (n + k) - 1) % p
    → ComputesQuotients n p ((2 ^ (n + k) - 1) / p + 1) 0 k
made_above n k p some below much x within =
    let d = 2 ^ (n + k) in
    let rest : (d - 1) % p < p = mod_below (d - 1) p some in
    let split : (d - 1) / p * p + (d - 1) % p ≡ d - 1 = div-add-mod' (d - 1) p in
    let pos : 0 < d = pow_pos (n + k) in
    let e = p - suc ((d - 1) % p) in
    let is : ((d - 1) / p + 1) * p ≡ d + e = omega arith in
    let product : d ≡ 2 ^ n * 2 ^ k = pow-add 2 n k in
    let less : suc e ≤ 2 ^ k = omega arith in
    let small : suc e * 2 ^ n ≤ 2 ^ k * 2 ^ n = mul-le-mul_right (2 ^ n) less in
    let unit : 0 < 2 ^ n = pow_pos n in
    from_above (2 ^ n) d p ((d - 1) / p + 1) e x some is (omega (arith, small, product, unit)) within

-- the numbers fit
pub power_fits : (n k p : ℕ) → 2 ^ k ≤ p → 2 ^ (n + k) - 1 < p * 2 ^ n
power_fits n k p from =
    let product : 2 ^ (n + k) ≡ 2 ^ n * 2 ^ k = pow-add 2 n k in
    let pos : 0 < 2 ^ (n + k) = pow_pos (n + k) in
    let most : 2 ^ n * 2 ^ k ≤ 2 ^ n * p = mul-le-mul_left (2 ^ n) from in
    omega (arith, product, pos, most)

pub high_fits : (n k p : ℕ) → 0 < p → p < 2 ^ k * 2 → p < 2 ^ n → 2 ^ k ≤ (2 ^ (n + k) - 1) % p
    → (2 ^ (n + k) - 1) / p + 1 < 2 ^ n
high_fits n k p some below within much =
    let d = 2 ^ (n + k) in
    let product : d ≡ 2 ^ n * 2 ^ k = pow-add 2 n k in
    let rest : (d - 1) % p < p = mod_below (d - 1) p some in
    let split : (d - 1) / p * p + (d - 1) % p ≡ d - 1 = div-add-mod' (d - 1) p in
    let pos : 0 < d = pow_pos (n + k) in
    let most : 2 ^ n * suc (2 ^ k) ≤ 2 ^ n * p = mul-le-mul_left (2 ^ n) (omega arith) in
    factor_lt p ((d - 1) / p + 1) (2 ^ n) (omega (arith, product, most, split, rest))

-- the sum fits twice n bits
pub sum_fits : (n x m b : ℕ) → x < 2 ^ n → m < 2 ^ n → b < 2 ^ n → x * m + b < 2 ^ (n + n)
sum_fits n x m b hx hm hb =
    let product : 2 ^ (n + n) ≡ 2 ^ n * 2 ^ n = pow-add 2 n n in
    let first : x * m ≤ x * 2 ^ n = mul-le-mul_left x (omega arith) in
    let next : suc x * 2 ^ n ≤ 2 ^ n * 2 ^ n = mul-le-mul_right (2 ^ n) hx in
    omega (arith, product, first, next)

-- the power of two from which a number is, as far as one number of n bits, and that moved up by n bits
pub record IsTop (n d k : ℕ) : Type 0 where
  pub below_bits : k < n
  pub from : 2 ^ k ≤ d
  pub below : d < 2 ^ k * 2
  pub power : 1 * 2 ^ k % 2 ^ n ≡ 2 ^ k
  pub moved : 2 ^ k * 2 ^ n % 2 ^ (n + n) ≡ 2 ^ (n + k)

pub top : (n d : ℕ) → 0 < d → d < 2 ^ n → IsTop n d (n - 1 - count_leading_zeros n d)
top n d some within =
    let found = leading_top n d some within in
    let is : n - 1 - count_leading_zeros n d ≡ found.0 = omega (arith, found.1) in
    let less : found.0 < n = omega (arith, found.1) in
    let next : 2 ^ (found.0 + 1) ≡ 2 ^ found.0 * 2 = pow-add 2 found.0 1 in
    let product : 2 ^ (n + found.0) ≡ 2 ^ n * 2 ^ found.0 = pow-add 2 n found.0 in
    let fits : 2 ^ (n + found.0) < 2 ^ (n + n) = pow_below (n + found.0) (n + n) (omega arith) in
    let swapped : 2 ^ found.0 * 2 ^ n ≡ 2 ^ (n + found.0) = omega (arith, product) in
    rw is record {
      below_bits = less;
      from = found.2;
      below = omega (arith, found.3, next);
      power = one_shl found.0 n less;
      moved = rw swapped (mod-eq_of_lt fits);
    }

-- a product moved down by n bits and then by k
pub moved_twice : (n m b k p x : ℕ) → ComputesQuotients n p m b k → x < 2 ^ n → (x * m + b) / 2 ^ n / 2 ^ k ≡ x / p
moved_twice n m b k p x divides within = shr-shr (x * m + b) n k ∙ divides x within

-- a quotient of a number of so many bits has no more
pub quotient_fits : (bits n d q : ℕ) → n < 2 ^ bits → q ≡ n / d → q % 2 ^ bits ≡ n % 2 ^ bits / d
quotient_fits bits n d q within is =
    let same : n % 2 ^ bits ≡ n = mod-eq_of_lt within in
    let small : q < 2 ^ bits = omega (arith, is, div-le_self n d) in
    rw same (mod-eq_of_lt small ∙ is)
