-- The quotient and the remainder, from an estimate of the quotient that isn't too large.
use Rattle.std.proofs.Common.{◌≡◌, ℕ, suc, ◌+◌, ◌-◌, ◌*◌, ◌/◌, ◌%◌, ◌^◌, ◌<◌, ◌≤◌, ◌∙◌, ap, sym, arith, mul-le-mul_right, mul-le-mul_left}
use Rattle.std.proofs.lemmas.Nat.{div-add-mod', mod_below}
use Rattle.std.proofs.Math.Nat.{div-le_self, mod-eq_of_lt}
use Rattle.constriction_words.proofs.Reciprocals.{factor_le, factor_lt, quotient_is}

-- where m times p is at most d, m times h over d is no more than h over p
pub within : (d p m h : ℕ) → 0 < d → m * p ≤ d → h * m / d * p ≤ h
within d p m h some small =
    let split : h * m / d * d + h * m % d ≡ h * m = div-add-mod' (h * m) d in
    let first : h * m / d * d * p ≤ h * m * p = mul-le-mul_right p (omega (arith, split)) in
    let last : h * (m * p) ≤ h * d = mul-le-mul_left h small in
    factor_le d (h * m / d * p) h some (omega (arith, first, last))

-- where m is d - 1 over p, it is less by 1 at most
pub near : (d p h : ℕ) → 0 < p → 0 < d → h < d → h < (h * ((d - 1) / p) / d + 2) * p
near d p h some some_d below =
    let m = (d - 1) / p in
    let q = h * m / d in
    let split : m * p + (d - 1) % p ≡ d - 1 = div-add-mod' (d - 1) p in
    let rest : (d - 1) % p < p = mod_below (d - 1) p some in
    let least : h * d ≤ h * (m * p + p) = mul-le-mul_left h (omega (arith, split, rest)) in
    let parts : q * d + h * m % d ≡ h * m = div-add-mod' (h * m) d in
    let part : h * m % d < d = mod_below (h * m) d some_d in
    let next : suc (h * m) * p ≤ (q + 1) * d * p = mul-le-mul_right p (omega (arith, parts, part)) in
    let most : h * p ≤ d * p = mul-le-mul_right p (omega arith) in
    factor_lt d h ((q + 2) * p) (omega (arith, least, next, most, some))

-- what is left is below p
pub exact : (n p q : ℕ) → q * p ≤ n → n - q * p < p → (q ≡ n / p) × (n - q * p ≡ n % p)
exact n p q from below =
    let is : n / p ≡ q = quotient_is n p q from (omega arith) in
    let split : n / p * p + n % p ≡ n = div-add-mod' n p in
    let same : n / p * p ≡ q * p = ap (λ x. x * p) is in
    (sym is, omega (arith, split, same))

-- what is left is p or more, and below p once p is taken away
pub one_more : (n p q : ℕ) → q * p ≤ n → p ≤ n - q * p → n - q * p - p < p → (q + 1 ≡ n / p) × (n - q * p - p ≡ n % p)
one_more n p q from some below =
    let next : (q + 1) * p ≡ q * p + p = omega arith in
    let found = exact n p (q + 1) (omega arith) (omega arith) in
    (found.0, omega (arith, found.1))

-- long division: two digits in base b, the higher first
pub long : (b n p : ℕ) → 0 < b → 0 < p → (n / b / p * b + (n / b % p * b + n % b) / p ≡ n / p) × ((n / b % p * b + n % b) % p ≡ n % p)
long b n p some_b some =
    let low = n / b % p * b + n % b in
    let q = n / b / p * b + low / p in
    let digits : n / b * b + n % b ≡ n = div-add-mod' n b in
    let high : n / b / p * p + n / b % p ≡ n / b = div-add-mod' (n / b) p in
    let high_b : (n / b / p * p + n / b % p) * b ≡ n / b * b = ap (λ x. x * b) high in
    let split : low / p * p + low % p ≡ low = div-add-mod' low p in
    let is : q * p + low % p ≡ n = omega (arith, digits, high_b, split) in
    let rest : low % p < p = mod_below low p some in
    let found = exact n p q (omega (arith, is)) (omega (arith, is, rest)) in
    (found.0, omega (arith, found.1, is))

-- the same, as numbers of so many bits
pub of_words : (bits n p q r : ℕ) → n < 2 ^ bits → p < 2 ^ bits → (q ≡ n / p) × (r ≡ n % p)
    → (q % 2 ^ bits ≡ n % 2 ^ bits / (p % 2 ^ bits)) × (r % 2 ^ bits ≡ n % 2 ^ bits % (p % 2 ^ bits))
of_words bits n p q r fits_n fits_p is =
    let same_n : n % 2 ^ bits ≡ n = mod-eq_of_lt fits_n in
    let same_p : p % 2 ^ bits ≡ p = mod-eq_of_lt fits_p in
    let split : n / p * p + n % p ≡ n = div-add-mod' n p in
    let fits_q : q < 2 ^ bits = omega (arith, is.0, div-le_self n p) in
    let fits_r : r < 2 ^ bits = omega (arith, is.1, split) in
    rw (same_n, same_p) (mod-eq_of_lt fits_q ∙ is.0, mod-eq_of_lt fits_r ∙ is.1)
