-- Words are the binary form of one number in a window, and of the words below it.
use Rattle.std.proofs.Common.{◌≡◌, ℕ, zero, suc, ◌+◌, ◌-◌, ◌*◌, ◌/◌, ◌%◌, ◌^◌, ◌<◌, ◌≤◌, List, ◌∷◌, ◌++◌, inl, inr, refl, sym, ap, ◌∙◌, subst, arith, div-add-mod', mul-le-mul_right}
use Rattle.std.proofs.lemmas.Bool.{cases_lt}
use Rattle.constriction_base.specs.Digits.{fixed_digits}
use Rattle.constriction_base.specs.Windows.{IsInWindow}
use Rattle.constriction_base.proofs.Sizes.{pow_le}
use Rattle.constriction_chain.specs.Chain.{ChainState, IsSized, least}
use Rattle.constriction_chain.specs.Imports.{FromBinary}
use Rattle.constriction_base.specs.Writing.{IsOneAbove}
use Rattle.constriction_chain.proofs.Chains.{state_same}
use Rattle.constriction_chain.proofs.Walks.{cons_same}
use Rattle.constriction_base.proofs.OneAbove.{power_more, one_rest}
use Rattle.constriction_base.proofs.Written.{fixed_next}

-- the words below the leading one tell the number and the words that follow
same_digits : (w m a c : ℕ) (us vs : List ℕ) → 2 ^ (m * w) ≤ a → a < 2 ^ (m * w + 1) → 2 ^ (m * w) ≤ c → c < 2 ^ (m * w + 1)
    → fixed_digits (2 ^ w) m a ++ us ≡ fixed_digits (2 ^ w) m c ++ vs → (a ≡ c) × (us ≡ vs)
same_digits w zero a c us vs from below from' below' e =
    let none : 0 * w ≡ 0 = omega arith in
    let one : a ≡ 1 = (let i = rw none at from in let j = rw none at below in omega arith) in
    let one' : c ≡ 1 = (let i = rw none at from' in let j = rw none at below' in omega arith) in
    (one ∙ sym one', e)
same_digits w (suc m) a c us vs from below from' below' e =
    let b : ℕ = 2 ^ w in
    let rest = one_rest w m a from below in
    let rest' = one_rest w m c from' below' in
    let high = same_digits w m (a / b) (c / b) (a % b ∷ us) (c % b ∷ vs) rest.0 rest.1 rest'.0 rest'.1
    (sym (fixed_next b m a us) ∙ (e ∙ fixed_next b m c vs)) in
    let low = cons_same (a % b) (c % b) us vs high.1 in
    (sym (div-add-mod' a b) ∙ (ap (λ n. n * b + a % b) high.0 ∙ (ap (λ n. c / b * b + n) low.0 ∙ div-add-mod' c b)), low.1)

-- of two numbers in a window, none is a one above fewer words than the other
not_fewer : (w b m n x y : ℕ) → 1 ≤ w → m < n → x < 2 ^ (m * w + 1) → 2 ^ (n * w) ≤ y → (k : ℕ) → b ≡ 2 ^ k → IsInWindow w b x → IsInWindow w b y → ⊥
not_fewer w b m n x y some less below from k is hx hy = elim (cases_lt (m * w) k) [
  | inl more ↦
      let up : 2 ^ (m * w + 1) ≤ 2 ^ k = pow_le (m * w + 1) k (omega (arith, more)) in
      omega (arith, up, is, hx.from, below)
  | inr few ↦
      let low : 2 ^ k ≤ 2 ^ (m * w) = pow_le k (m * w) few in
      let wide : b * 2 ^ w ≤ 2 ^ (m * w) * 2 ^ w = mul-le-mul_right (2 ^ w) (omega (arith, low, is)) in
      let part : suc m * w ≤ n * w = mul-le-mul_right w less in
      let top : 2 ^ (suc m * w) ≤ 2 ^ (n * w) = pow_le (suc m * w) (n * w) part in
      omega (arith, wide, top, power_more w m, from, hy.below)
]

same_count : (w b m n x y k : ℕ) → 1 ≤ w → b ≡ 2 ^ k → IsOneAbove w m x → IsOneAbove w n y → IsInWindow w b x → IsInWindow w b y → m ≡ n
same_count w b m n x y k some is i j hx hy = elim (cases_lt m n) [
  | inl less ↦ absurd (not_fewer w b m n x y some less i.below j.from k is hx hy)
  | inr more ↦ elim (cases_lt n m) [
    | inl greater ↦ absurd (not_fewer w b n m y x some greater j.below i.from k is hy hx)
    | inr same ↦ omega arith
  ]
]

-- words stand for one coder in binary form
pub one_binary : (w s P : ℕ) (words : List ℕ) (x y : ChainState) → IsSized w s P → FromBinary w s P words x → FromBinary w s P words y → x ≡ y
one_binary w s P words x y sized (i, (m, above, are)) (j, (n, above', are')) =
    let some = sized.sizes.some_bits in
    let count : n ≡ m = same_count w (least w s P) n m y.r x.r (s - w - P) some refl above' above j.chain.window i.chain.window in
    let one : IsOneAbove w m y.r = subst (λ k. IsOneAbove w k y.r) count above' in
    let again : words ≡ fixed_digits (2 ^ w) m y.r ++ y.compressed = are' ∙ ap (λ k. fixed_digits (2 ^ w) k y.r ++ y.compressed) count in
    let e = same_digits w m x.r y.r x.compressed y.compressed above.from above.below one.from one.below (sym are ∙ again) in
    state_same x y (i.h ∙ sym j.h) e.0 e.1 (i.remainders ∙ sym j.remainders)
