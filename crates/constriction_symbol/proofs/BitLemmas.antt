-- One bit more and one bit less.
use Rattle.std.proofs.Common.{◌≡◌, ◌<◌, ◌+◌, ◌*◌, ◌-◌, ◌/◌, ◌%◌, ◌^◌, ◌==◌, ℕ, zero, suc, Bool, true, false, not, [], ◌∷◌, ◌++◌, refl, sym, ap, ap₂, ◌∙◌, arith, add-one, pow_pos, ◌≢◌}
use Rattle.std.specs.Prelude.{IsTrue, ◌↔◌}
use Rattle.std.proofs.Math.Pow.{shr_lt}
use Rattle.std.proofs.Math.Nat.{add_comm, pow-succ'}
use Rattle.std.proofs.lemmas.Nat.{shr_split, mod_below}
use native.Mathlib.Nat.{pow-zero}
use Rattle.constriction_symbol.specs.Bits.{bits_of}

-- a bit that is set, above k others
bits_set : (k n : ℕ) → n < 2 ^ k → bits_of (suc k) (n + 2 ^ k) ≡ bits_of k n ++ true ∷ []
bits_set zero n h = let none : n ≡ 0 = omega (arith, h, pow-zero 2) in rw none refl
bits_set (suc k) n h =
    let two = pow-succ' 2 k in
    let half : n / 2 < 2 ^ k = omega (arith, h, two) in
    let low : (n + 2 ^ suc k) % 2 ≡ n % 2 = omega (arith, two) in
    let high : (n + 2 ^ suc k) / 2 ≡ n / 2 + 2 ^ k = omega (arith, two) in
    ap₂ (λ b x. (b == 1) ∷ bits_of (suc k) x) low high ∙ ap (λ bs. (n % 2 == 1) ∷ bs) (bits_set k (n / 2) half)

-- a bit that isn't
bits_clear : (k n : ℕ) → n < 2 ^ k → bits_of (suc k) n ≡ bits_of k n ++ false ∷ []
bits_clear zero n h = let none : n ≡ 0 = omega (arith, h, pow-zero 2) in rw none refl
bits_clear (suc k) n h =
    let half : n / 2 < 2 ^ k = omega (arith, h, pow-succ' 2 k) in
    ap (λ bs. (n % 2 == 1) ∷ bs) (bits_clear k (n / 2) half)

pub set_above : (k n m : ℕ) → n < 2 ^ k → m ≡ n + 2 ^ k → bits_of (k + 1) m ≡ bits_of k n ++ true ∷ []
set_above k n m h is = rw (add-one, is) (bits_set k n h)

pub clear_above : (k n : ℕ) → n < 2 ^ k → bits_of (k + 1) n ≡ bits_of k n ++ false ∷ []
clear_above k n h = rw add-one (bits_clear k n h)

-- the highest bit of a number comes off: it is set where the number without the others isn't 0
pub top_off : (k n m h : ℕ) (b : Bool) → n < 2 ^ (k + 1) → m ≡ n % 2 ^ k → h ≡ n / 2 ^ k → IsTrue b ↔ (h ≡ 0) → bits_of (k + 1) n ≡ bits_of k m ++ not b ∷ []
top_off k n m h true fits low high none =
    let zero_high : n / 2 ^ k ≡ 0 = sym high ∙ none.0 refl in
    let all : n / 2 ^ k * 2 ^ k + n % 2 ^ k ≡ n = shr_split n k in
    let same : m ≡ n = low ∙ omega (arith, rw zero_high at all) in
    clear_above k n (omega (arith, sym same, low, mod_below n (2 ^ k) (pow_pos k))) ∙ ap (λ x. bits_of k x ++ false ∷ []) (sym same)
top_off k n m h false fits low high none =
    let two : n / 2 ^ k < 2 = shr_lt 1 k (rw (add_comm k 1) at fits) in
    let some : h ≢ 0 = λ is. let no = none.1 is in cc in
    let one : n / 2 ^ k ≡ 1 = omega (arith, two, some, high) in
    let all : n / 2 ^ k * 2 ^ k + n % 2 ^ k ≡ n = shr_split n k in
    let split : n ≡ m + 2 ^ k = omega (arith, rw one at all, low) in
    set_above k m n (omega (arith, low, mod_below n (2 ^ k) (pow_pos k))) split

-- the lowest bit of a number comes off: it is set where it isn't 0
pub low_off : (left n m h : ℕ) (b : Bool) → 0 < left → m ≡ n / 2 ^ 1 → h ≡ n % 2 ^ 1 → IsTrue b ↔ (h ≡ 0) → bits_of left n ≡ not b ∷ bits_of (left - 1) m
low_off zero n m h b some high low none = absurd (omega arith)
low_off (suc k) n m h true some high low none =
    let even : n % 2 ≡ 0 = sym low ∙ none.0 refl in
    let one : suc k - 1 ≡ k = omega arith in
    rw one (ap₂ (λ x y. (x == 1) ∷ bits_of k y) even (sym high))
low_off (suc k) n m h false some high low none =
    let not_zero : h ≢ 0 = λ is. let no = none.1 is in cc in
    let odd : n % 2 ≡ 1 = omega (arith, low, not_zero) in
    let one : suc k - 1 ≡ k = omega arith in
    rw one (ap₂ (λ x y. (x == 1) ∷ bits_of k y) odd (sym high))
