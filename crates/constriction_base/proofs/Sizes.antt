-- Powers of two at the sizes of words, states and tables.
use Rattle.std.proofs.Common.{◌≡◌, ◌↔◌, ℕ, zero, suc, ◌+◌, ◌-◌, ◌*◌, ◌/◌, ◌^◌, ◌<◌, ◌≤◌, refl, sym, ap, ◌∙◌, arith, pow-add, pow_mono, zero-mul, div-add-mod', le-div_iff_mul-le, ◌%◌}
use native.Mathlib.Nat.{pow-suc, pow-zero}
use Rattle.constriction_base.specs.Steps.{Step, IsStep, IsSizes}
use Rattle.std.proofs.Math.Nat.{mod-eq_of_lt}

pub pow_le : (i j : ℕ) → i ≤ j → 2 ^ i ≤ 2 ^ j
pow_le i j h = pow_mono h

-- a number of few bits is the same among those of more
pub same_number : (k bits most : ℕ) → k < 2 ^ bits → bits ≤ most → k % 2 ^ most ≡ k
same_number k bits most below within = mod-eq_of_lt (omega (arith, pow_le bits most within))

-- a power of a power
pub pow-mul : (w j : ℕ) → (2 ^ w) ^ j ≡ 2 ^ (j * w)
pow-mul w zero = rw (pow-zero, zero-mul) refl
pow-mul w (suc j) =
    let e : suc j * w ≡ j * w + w = omega arith in
    rw (pow-suc, pow-mul w j, e, pow-add 2 (j * w) w) refl

-- a test of a number of words by a quotient
pub fit_by_quotient : (w n : ℕ) → 1 ≤ w → (n ≤ 18446744073709551615 / w) ↔ (w * n < 2 ^ 64)
fit_by_quotient w n some =
    let top : 2 ^ 64 ≡ 18446744073709551616 = refl in (
      λ h. let within : n * w ≤ 18446744073709551615 = (le-div_iff_mul-le some).0 h in omega (arith, within, top),
      λ h. (le-div_iff_mul-le some).1 (omega (arith, h, top)),
    )

-- what the laws use of the sizes
pub record Facts (w s : ℕ) : Type 0 where
  pub base : 2 ≤ 2 ^ w
  pub whole : 2 ^ s ≡ 2 ^ (s - w) * 2 ^ w
  pub least : 2 ^ w ≤ 2 ^ (s - w)
  pub two : 2 ≤ s / w
  pub last : 2 ^ (s - w) ≡ (2 ^ w) ^ (s / w - 1)
  pub all : 2 ^ s ≡ (2 ^ w) ^ (s / w)

one_less : (w s k : ℕ) → 2 ≤ k → k * w ≡ s → s - w ≡ (k - 1) * w
one_less w s zero h e = absurd (omega arith)
one_less w s (suc k) h e =
    let one : suc k - 1 ≡ k = omega arith in
    rw one (omega arith)

pub facts : (w s : ℕ) → IsSizes w s → Facts w s
facts w s z =
    let split : s ≡ (s - w) + w = omega (arith, z.two_words) in
    let words : s / w * w ≡ s = omega (arith, z.whole, div-add-mod' s w) in
    let two : 2 ≤ s / w = (le-div_iff_mul-le z.some_bits).1 (omega (arith, z.two_words)) in
    record {
      base = pow_le 1 w z.some_bits;
      whole = ap (λ n. 2 ^ n) split ∙ pow-add 2 (s - w) w;
      least = pow_le w (s - w) (omega (arith, z.two_words));
      two = two;
      last = ap (λ n. 2 ^ n) (one_less w s (s / w) two words) ∙ sym (pow-mul w (s / w - 1));
      all = ap (λ n. 2 ^ n) (sym words) ∙ sym (pow-mul w (s / w));
    }

-- a table is no longer than the least range
pub table_fits : (w s : ℕ) (e : Step) → IsSizes w s → IsStep w e → 2 ^ e.precision ≤ 2 ^ (s - w)
table_fits w s e z h =
    let inside : e.precision ≤ w = h.within_word in
    pow_le e.precision (s - w) (omega (arith, z.two_words, inside))

-- a table's parts divide the least range
pub table_divides : (w s : ℕ) (e : Step) → IsSizes w s → IsStep w e → 2 ^ (s - w) ≡ 2 ^ (s - w - e.precision) * 2 ^ e.precision
table_divides w s e z h =
    let inside : e.precision ≤ w = h.within_word in
    let split : s - w ≡ (s - w - e.precision) + e.precision = omega (arith, z.two_words, inside) in
    ap (λ n. 2 ^ n) split ∙ pow-add 2 (s - w - e.precision) e.precision

pub whole_divides : (w s : ℕ) (e : Step) → IsSizes w s → IsStep w e → 2 ^ s ≡ 2 ^ (s - w - e.precision) * 2 ^ w * 2 ^ e.precision
whole_divides w s e z h =
    let f : Facts w s = facts w s z in
    f.whole ∙ rw (table_divides w s e z h) (omega arith)

-- what is above a table and what is above a word
pub above_table : (w s : ℕ) (e : Step) → IsSizes w s → IsStep w e → 2 ^ (s - e.precision) ≡ 2 ^ (s - w - e.precision) * 2 ^ w
above_table w s e z h =
    let inside : e.precision ≤ w = h.within_word in
    let split : s - e.precision ≡ (s - w - e.precision) + w = omega (arith, z.two_words, inside) in
    ap (λ n. 2 ^ n) split ∙ pow-add 2 (s - w - e.precision) w
