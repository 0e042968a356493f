-- A decode leads from a state of a coder to one.
use Rattle.std.proofs.Common.{◌≡◌, ℕ, suc, ◌+◌, ◌*◌, ◌^◌, ◌<◌, ◌≤◌, Bool, true, List, ◌∷◌, length, length-append, ap, ◌∙◌, subst, arith, inl, inr, lit<, mul-le-mul_right, mul-le-mul_left, lt_of_mul-lt-mul_right}
use Rattle.std.proofs.lemmas.Bool.{cases_lt}
use Rattle.std.proofs.Math.Nat.{pow-le-pow_right}
use native.Mathlib.Nat.{pow-suc}
use Rattle.constriction_base.specs.Steps.{Step, AreWords}
use Rattle.constriction_base.specs.Windows.{IsInWindow}
use Rattle.constriction_chain.specs.Walk.{number_of_bits, IsQuantile}
use Rattle.constriction_chain.specs.Chain.{ChainState, IsBroughtBelow, IsChain, IsDecode, IsSized, least}
use Rattle.constriction_chain.proofs.Bits.{number_below, under_short}
use Rattle.constriction_chain.proofs.Walks.{quantile_some}
use Rattle.constriction_chain.proofs.Windows.{gain_below, gain_low}

-- a 1 above fewer than k bits is below 2 ^ k
under_fits : (bits : List Bool) (k : ℕ) → length bits < k → number_of_bits (true ∷ bits) < 2 ^ k
under_fits bits k short =
    let m : 2 ^ suc (length bits) ≤ 2 ^ k = pow-le-pow_right {n = 2} (lit< tt) short in
    omega (arith, number_below bits, pow-suc 2 (length bits), m)

-- what a quantile leaves of a head fits a word
quantile_fits : (w P h q h' : ℕ) (ws ws' : List ℕ) → P ≤ w → h < 2 ^ w → IsQuantile w P h ws q h' ws' → h' < 2 ^ w
quantile_fits w P h q h' ws ws' within fits x =
    let short : length x.bits < w = under_short x.bits w (omega (arith, fits, x.head)) in
    let short' : length x.bits' < w = elim x.taken [
      | inl y ↦
          let len : length x.bits' ≡ length x.bits + length y.others = ap length y.left_over ∙ length-append x.bits y.others in
          elim y.few [ inl full ↦ omega (arith, len, short, full, y.others_length) | inr few ↦ omega (arith, len, few, y.others_length) ]
      | inr y ↦ omega (arith, ap length y.left_over, length-append x.bits' y.answer, short)
    ] in
    omega (arith, under_fits x.bits' w short', x.head')

-- the words that are left fit
quantile_words : (w P h q h' : ℕ) (ws ws' : List ℕ) → AreWords w ws → IsQuantile w P h ws q h' ws' → AreWords w ws'
quantile_words w P h q h' ws ws' fit x = elim x.taken [
  | inl y ↦ (subst (λ (vs : List ℕ). AreWords w vs) y.word fit).1
  | inr y ↦ rw y.words fit
]

-- so do those that a word moved onto
brought_words : (w b x x' : ℕ) (ws ws' : List ℕ) → AreWords w ws → IsBroughtBelow w b x ws x' ws' → AreWords w ws'
brought_words w b x x' ws ws' fit (inl stays) = rw stays.2 fit
brought_words w b x x' ws ws' fit (inr (high, m)) = rw m.taken (m.fits, fit)

-- a number that is brought below the window's end is in the window
brought_window : (w P b x x' : ℕ) (ws ws' : List ℕ) → P ≤ w → b ≤ x → x < b * 2 ^ w * 2 ^ P → IsBroughtBelow w b x ws x' ws' → IsInWindow w b x'
brought_window w P b x x' ws ws' within from below (inl stays) = record { from = omega (arith, from, stays.1); below = omega (arith, stays.0, stays.1) }
brought_window w P b x x' ws ws' within from below (inr (high, m)) =
    let wide : 2 ^ P ≤ 2 ^ w = pow-le-pow_right {n = 2} (lit< tt) within in
    let upto : b * 2 ^ w * 2 ^ P ≤ b * 2 ^ w * 2 ^ w = mul-le-mul_left (b * 2 ^ w) wide in
    let less : x' < b * 2 ^ w = lt_of_mul-lt-mul_right (2 ^ w) (omega (arith, m.grown, below, upto)) in
    elim (cases_lt x' b) [
      | inl low ↦ (let n : suc x' * 2 ^ w ≤ b * 2 ^ w = mul-le-mul_right (2 ^ w) low in absurd (omega (arith, n, high, m.grown, m.fits)))
      | inr up ↦ record { from = up; below = less }
    ]

pub decoded_chain : (w s : ℕ) (e : Step) (old new : ChainState) → IsSized w s e.precision → e.p ≤ 2 ^ e.precision
    → IsChain w s e.precision old → IsDecode w s e old new → IsChain w s e.precision new
decoded_chain w s e old new sized few chain d =
    let b = least w s e.precision in
    record {
      some = quantile_some w e.precision old.h (e.left + d.t) new.h old.compressed new.compressed d.walk;
      within_word = quantile_fits w e.precision old.h (e.left + d.t) new.h old.compressed new.compressed sized.within_word chain.within_word d.walk;
      window = brought_window w e.precision b (old.r * e.p + d.t) new.r old.remainders new.remainders sized.within_word
          (gain_low old.r e.p d.t b (omega (arith, d.within)) chain.window.from) (gain_below b w e.precision old.r e.p d.t d.within few chain.window.below) d.gain;
      compressed_fit = quantile_words w e.precision old.h (e.left + d.t) new.h old.compressed new.compressed chain.compressed_fit d.walk;
      remainders_fit = brought_words w b (old.r * e.p + d.t) new.r old.remainders new.remainders chain.remainders_fit d.gain;
    }
