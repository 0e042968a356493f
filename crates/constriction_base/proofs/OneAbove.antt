-- Numbers that are a one above whole words.
use Rattle.std.proofs.Common.{◌≡◌, ℕ, zero, suc, ◌+◌, ◌-◌, ◌*◌, ◌/◌, ◌%◌, ◌^◌, ◌<◌, ◌≤◌, ap, ◌∙◌, arith, inl, inr, pow_pos, pow-add, div-add-mod', div-lt_iff_lt-mul, le-div_iff_mul-le, mul-le-mul_right}
use Rattle.std.proofs.lemmas.Bool.{cases_lt}
use Rattle.std.proofs.lemmas.Nat.{mod-mul-add}
use Rattle.constriction_base.proofs.Sizes.{pow_le}
use Rattle.constriction_base.specs.Writing.{IsOneAbove}

-- the powers of one word more
pub power_more : (w m : ℕ) → 2 ^ (suc m * w) ≡ 2 ^ (m * w) * 2 ^ w
power_more w m = let e : suc m * w ≡ m * w + w = omega arith in ap (λ n. 2 ^ n) e ∙ pow-add 2 (m * w) w

pub limit_more : (w m : ℕ) → 2 ^ (suc m * w + 1) ≡ 2 ^ (m * w + 1) * 2 ^ w
limit_more w m = let e : suc m * w + 1 ≡ (m * w + 1) + w = omega arith in ap (λ n. 2 ^ n) e ∙ pow-add 2 (m * w + 1) w

-- without its lowest word it has a word less
pub one_rest : (w m n : ℕ) → 2 ^ (suc m * w) ≤ n → n < 2 ^ (suc m * w + 1) → (2 ^ (m * w) ≤ n / 2 ^ w) × (n / 2 ^ w < 2 ^ (m * w + 1))
one_rest w m n from below = (
  (le-div_iff_mul-le (pow_pos w)).1 (omega (arith, from, power_more w m)),
  (div-lt_iff_lt-mul (pow_pos w)).1 (omega (arith, below, limit_more w m)),
)

-- what a count of bits says
ones_of_bits : (w m bits n : ℕ) → n < 2 ^ bits → 2 ^ bits ≤ 2 * n + 1 → bits ≡ m * w + 1 → IsOneAbove w m n
ones_of_bits w m bits n below least is =
    let double : 2 ^ (m * w + 1) ≡ 2 ^ (m * w) * 2 ^ 1 = pow-add 2 (m * w) 1 in
    let below' : n < 2 ^ (m * w + 1) = rw is at below in
    let least' : 2 ^ (m * w + 1) ≤ 2 * n + 1 = rw is at least in
    record { from = omega (arith, double); below = below' }

bits_of_ones : (w m bits n : ℕ) → n < 2 ^ bits → 2 ^ bits ≤ 2 * n + 1 → IsOneAbove w m n → bits ≡ m * w + 1
bits_of_ones w m bits n below least i = elim (cases_lt bits (m * w + 1)) [
  | inl less ↦ (let small : 2 ^ bits ≤ 2 ^ (m * w) = pow_le bits (m * w) (omega arith) in absurd (omega (arith, i.from)))
  | inr more ↦ elim (cases_lt (m * w + 1) bits) [
    | inr same ↦ omega arith
    | inl greater ↦
        let large : 2 ^ (suc (m * w + 1)) ≤ 2 ^ bits = pow_le (suc (m * w + 1)) bits (omega arith) in
        let e : suc (m * w + 1) ≡ (m * w + 1) + 1 = omega arith in
        let double : 2 ^ (suc (m * w + 1)) ≡ 2 ^ (m * w + 1) * 2 ^ 1 = ap (λ k. 2 ^ k) e ∙ pow-add 2 (m * w + 1) 1 in
        absurd (omega (arith, large, double, i.below))
  ]
]

pub ones_of_whole : (w bits n : ℕ) → n < 2 ^ bits → 2 ^ bits ≤ 2 * n + 1 → 0 < bits → (bits - 1) % w ≡ 0 → IsOneAbove w ((bits - 1) / w) n
ones_of_whole w bits n below least some whole =
    let split : (bits - 1) / w * w + (bits - 1) % w ≡ bits - 1 = div-add-mod' (bits - 1) w in
    ones_of_bits w ((bits - 1) / w) bits n below least (omega (arith, split, whole, some))

pub whole_of_ones : (w m bits n : ℕ) → 1 ≤ w → n < 2 ^ bits → 2 ^ bits ≤ 2 * n + 1 → IsOneAbove w m n → (bits - 1) % w ≡ 0
whole_of_ones w m bits n some below least i =
    let is : bits - 1 ≡ m * w + 0 = omega (arith, bits_of_ones w m bits n below least i) in
    ap (λ k. k % w) is ∙ mod-mul-add m w 0 some

-- a number of 0 is none
pub none_of_zero : (w m n : ℕ) → n ≡ 0 → IsOneAbove w m n → ⊥
none_of_zero w m n none i = omega (arith, i.from, none, pow_pos (m * w))

-- a number above 0 has bits
pub some_bits : (bits n : ℕ) → 0 < n → n < 2 ^ bits → 0 < bits
some_bits zero n some below = let less : n < 1 = below in absurd (omega arith)
some_bits (suc bits) n some below = omega arith

-- no head is binary with fewer words and with more
not_less : (w m n head : ℕ) → 1 ≤ w → m < n → head < 2 ^ (m * w + 1) → 2 ^ (n * w) ≤ head → ⊥
not_less w m n head some less below from =
    let part : suc m * w ≤ n * w = mul-le-mul_right w less in
    let upto : 2 ^ (m * w + 1) ≤ 2 ^ (n * w) = pow_le (m * w + 1) (n * w) (omega (arith, part)) in
    omega arith

pub one_count : (w m n head : ℕ) → 1 ≤ w → IsOneAbove w m head → IsOneAbove w n head → m ≡ n
one_count w m n head some i j = elim (cases_lt m n) [
  | inl less ↦ absurd (not_less w m n head some less i.below j.from)
  | inr more ↦ elim (cases_lt n m) [
    | inl greater ↦ absurd (not_less w n m head some greater j.below i.from)
    | inr same ↦ omega arith
  ]
]
