-- Any words are those of one binary state, and a binary state has one number of words.
use Rattle.std.proofs.Common.{◌≡◌, ℕ, zero, suc, ◌+◌, ◌-◌, ◌*◌, ◌/◌, ◌%◌, ◌^◌, ◌<◌, ◌≤◌, List, [], ◌∷◌, ◌++◌, refl, ap, ◌∙◌, arith, inl, inr, pow_pos, le-ltb, append_assoc, div-add-mod', div-lt_iff_lt-mul, mul-le-mul_right}
use Rattle.std.proofs.lemmas.Bool.{cases_lt}
use Rattle.constriction_base.specs.Digits.{fixed_digits}
use Rattle.constriction_base.specs.Steps.{IsSizes, AreWords}
use Rattle.constriction_stack.specs.Ans.{AnsState, IsNormalized, filled}
use Rattle.constriction_base.specs.Writing.{IsOneAbove}
use Rattle.constriction_base.proofs.OneAbove.{limit_more, one_rest, power_more}
use Rattle.constriction_base.proofs.Written.{fixed_next, fixed_push}
use Rattle.constriction_stack.specs.Binary.{binary_state, binary_words}
use Rattle.constriction_stack.proofs.Importing.{filled_low, filled_full, valid_filled}
use Rattle.constriction_base.proofs.Sizes.{Facts, facts, pow_le}

-- ---- binary heads

-- a head of one alone has no word below it
pub binary_one : (w m n : ℕ) → 1 ≤ w → 2 ^ (m * w) ≤ n → n < 2 → m ≡ 0
binary_one w zero n some from below = refl
binary_one w (suc m) n some from below =
    let bits : 1 * w ≤ suc m * w = mul-le-mul_right w (omega arith) in
    let large : 2 ^ 1 ≤ 2 ^ (suc m * w) = pow_le 1 (suc m * w) (omega (arith, bits)) in
    absurd (omega (arith, large))

-- ---- words and states

binary_filled : (w s m head : ℕ) (vs : List ℕ) → AreWords w vs → 2 ^ (m * w) ≤ head → head < 2 ^ (m * w + 1)
    → (n : ℕ) × IsOneAbove w n (filled w s head vs).head × (binary_words w n (filled w s head vs) ≡ fixed_digits (2 ^ w) m head ++ vs)
binary_filled w s m head [] h from below = (m, record { from = from; below = below }, refl)
binary_filled w s m head (v ∷ vs) h from below = elim (cases_lt head (2 ^ (s - w))) [
  | inr high ↦ rw (le-ltb head (2 ^ (s - w)) high) (m, record { from = from; below = below }, refl)
  | inl low ↦
      let b : ℕ = 2 ^ w in
      let more : 2 ^ (m * w) * b ≤ head * b = mul-le-mul_right b from in
      let less : suc head * b ≤ 2 ^ (m * w + 1) * b = mul-le-mul_right b below in
      let rest = binary_filled w s (suc m) (head * b + v) vs h.1 (omega (arith, more, power_more w m)) (omega (arith, less, h.0, limit_more w m)) in
      rw (filled_low w s head v vs low) (rest.0, rest.1, rest.2 ∙ ap (λ ds. ds ++ vs) (fixed_push b m head v h.0) ∙ append_assoc (fixed_digits b m head) (v ∷ []) vs)
]

-- any words are those of their binary state
pub binary_back : (w s : ℕ) (vs : List ℕ) → AreWords w vs → (n : ℕ) × IsOneAbove w n (binary_state w s vs).head × (binary_words w n (binary_state w s vs) ≡ vs)
binary_back w s vs h =
    let none : 0 * w ≡ 0 = omega arith in
    binary_filled w s 0 1 vs h (rw none (omega arith)) (rw none (omega arith))

-- the words of a binary head fill a one
digits_fill_one : (w s m n : ℕ) (vs : List ℕ) → 2 ≤ 2 ^ w → 2 ^ (m * w) ≤ n → n < 2 ^ (m * w + 1) → n < 2 ^ (s - w) * 2 ^ w
    → filled w s 1 (fixed_digits (2 ^ w) m n ++ vs) ≡ filled w s n vs
digits_fill_one w s zero n vs base from below top =
    let none : 0 * w ≡ 0 = omega arith in
    let one : n ≡ 1 = (let below' = rw none at below in let from' = rw none at from in omega arith) in
    rw one refl
digits_fill_one w s (suc m) n vs base from below top =
    let b : ℕ = 2 ^ w in
    let rest = one_rest w m n from below in
    let low : n / b < 2 ^ (s - w) = (div-lt_iff_lt-mul (pow_pos w)).1 top in
    let wide : 2 ^ (s - w) * 1 ≤ 2 ^ (s - w) * b = (let m : 1 * 2 ^ (s - w) ≤ b * 2 ^ (s - w) = mul-le-mul_right (2 ^ (s - w)) (omega (arith, base)) in omega (arith, m)) in
    let before : filled w s 1 (fixed_digits b m (n / b) ++ (n % b ∷ vs)) ≡ filled w s (n / b) (n % b ∷ vs) =
    digits_fill_one w s m (n / b) (n % b ∷ vs) base rest.0 rest.1 (omega (arith, low, wide)) in
    rw (fixed_next b m n vs) (before ∙ filled_low w s (n / b) (n % b) vs low ∙ ap (λ k. filled w s k vs) (div-add-mod' n b))

-- a valid binary state is the one of its words
pub binary_import : (w s m : ℕ) (x : AnsState) → IsSizes w s → IsNormalized w s x → IsOneAbove w m x.head → binary_state w s (binary_words w m x) ≡ x
binary_import w s m x z v i =
    let f : Facts w s = facts w s z in
    digits_fill_one w s m x.head x.words f.base i.from i.below (omega (arith, v.state.fits, f.whole)) ∙ filled_full w s x.head x.words v.full

pub binary_valid : (w s : ℕ) (vs : List ℕ) → IsSizes w s → AreWords w vs → IsNormalized w s (binary_state w s vs)
binary_valid w s vs z h =
    let two : 2 ^ 1 ≤ 2 ^ s = pow_le 1 s (omega (arith, z.some_bits, z.two_words)) in
    valid_filled w s 1 vs z (omega (arith, two)) h

-- a head of 1 has no words below it
pub no_words_of_one : (w m head : ℕ) → 1 ≤ w → head ≡ 1 → IsOneAbove w m head → m ≡ 0
no_words_of_one w m head some is i = binary_one w m head some i.from (omega (arith, is))

-- and is a one above none
pub one_is_above : (w head : ℕ) → head ≡ 1 → IsOneAbove w 0 head
one_is_above w head is =
    let none : 0 * w ≡ 0 = omega arith in
    record { from = rw none (omega (arith, is)); below = rw none (omega (arith, is)) }
