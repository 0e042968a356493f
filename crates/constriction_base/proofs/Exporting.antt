-- The words of a number, one at a time, and words that are read one at a time.
use Rattle.std.specs.Prelude.{◌≡◌, ℕ, ◌+◌, ◌*◌, ◌/◌, ◌%◌, ◌^◌, ◌<◌, ◌≤◌, List, [], ◌∷◌, ◌++◌, length, Option, Some, Result, Ok}
use Rattle.std.proofs.Common.{arith, zero, suc, true, false, ◌∙◌, sym, ap, refl, append_assoc, pow_pos, mul-le-mul, mul-le-mul_right, subst}
use Rattle.std.proofs.lemmas.Int.Digits.{digits_of_step, length-digits_of_step, length-digits_of-le}
use Rattle.std.proofs.lemmas.Nat.{div-mul-add, mod-mul-add}
use Rattle.std.proofs.Math.Nat.{mul-le-mul_left}
use Rattle.std.specs.Int.Digits.{digits_of}
use native.Mathlib.Nat.{div-lt_self, pow-suc, pow-zero}
use Rattle.constriction_base.specs.Readings.{ReadsReturn}

-- what a test for 0 says
pub some_of : (n : ℕ) → (n ≡ 0 → false ≡ true) → 0 < n
some_of zero h = let no = h refl in absurd cc
some_of (suc n) h = omega arith

-- a number that isn't above 0
pub no_room : (n : ℕ) → (0 < n → ⊥) → n ≡ 0
no_room zero h = refl
no_room (suc n) h = absurd (h (omega arith))

pub base_two : (w : ℕ) → 1 ≤ w → 2 ≤ 2 ^ w
base_two zero h = absurd (omega arith)
base_two (suc w) h = rw (pow-suc 2 w) (omega (arith, pow_pos w))

-- the lowest word of a head comes first
pub next_digit : (w n : ℕ) (ws : List ℕ) → 1 ≤ w → 0 < n → digits_of (2 ^ w) (n / 2 ^ w) ++ (n % 2 ^ w ∷ ws) ≡ digits_of (2 ^ w) n ++ ws
next_digit w n ws some pos =
    sym (ap (λ ds. ds ++ ws) (digits_of_step (2 ^ w) n (base_two w some) pos) ∙ append_assoc (digits_of (2 ^ w) (n / 2 ^ w)) (n % 2 ^ w ∷ []) ws)

-- a head without its lowest word is less, and has a word less
pub shr_smaller : (w n : ℕ) → 1 ≤ w → 0 < n → n / 2 ^ w < n
shr_smaller w n some pos = div-lt_self pos (base_two w some)

pub one_digit_less : (w n : ℕ) → 1 ≤ w → 0 < n → length (digits_of (2 ^ w) n) ≡ length (digits_of (2 ^ w) (n / 2 ^ w)) + 1
one_digit_less w n some pos = length-digits_of_step (2 ^ w) n (base_two w some) pos

-- a head has no more words than bits
powers_grow : (b k : ℕ) → 2 ≤ b → 2 ^ k ≤ b ^ k
powers_grow b zero h = rw (pow-zero, pow-zero) (omega arith)
powers_grow b (suc k) h = rw (pow-suc, pow-suc) (mul-le-mul (powers_grow b k h) h)

pub digits_within : (w s n : ℕ) → 1 ≤ w → n < 2 ^ s → length (digits_of (2 ^ w) n) ≤ s
digits_within w s n some fits =
    let grown : 2 ^ s ≤ (2 ^ w) ^ s = powers_grow (2 ^ w) s (base_two w some) in
    length-digits_of-le (2 ^ w) s n (base_two w some) (omega (arith, fits, grown))

-- a word moves in below a number
pub digit_in : (w r v : ℕ) (ws : List ℕ) → 1 ≤ w → 0 < r → v < 2 ^ w → digits_of (2 ^ w) r ++ (v ∷ ws) ≡ digits_of (2 ^ w) (r * 2 ^ w + v) ++ ws
digit_in w r v ws some pos fits =
    let m : 1 * 2 ^ w ≤ r * 2 ^ w = mul-le-mul_right (2 ^ w) pos in
    sym (ap (λ n. digits_of (2 ^ w) n ++ (v ∷ ws)) (div-mul-add r (2 ^ w) v fits))
    ∙ (sym (ap (λ n. digits_of (2 ^ w) ((r * 2 ^ w + v) / 2 ^ w) ++ (n ∷ ws)) (mod-mul-add r (2 ^ w) v fits))
    ∙ next_digit w (r * 2 ^ w + v) ws some (omega (arith, m, pow_pos w)))

pub word_grows : (w r v : ℕ) → 1 ≤ w → 0 < r → r < r * 2 ^ w + v
word_grows w r v some pos =
    let m : r * 2 ≤ r * 2 ^ w = mul-le-mul_left r (base_two w some) in
    omega (arith, m)

-- a word above 0 alone
pub digit_alone : (w v : ℕ) (ws : List ℕ) → 1 ≤ w → 0 < v → v < 2 ^ w → v ∷ ws ≡ digits_of (2 ^ w) v ++ ws
digit_alone w v ws some pos fits =
    let same : 0 * 2 ^ w + v ≡ v = omega arith in
    let high : v / 2 ^ w ≡ 0 = sym (ap (λ n. n / 2 ^ w) same) ∙ div-mul-add 0 (2 ^ w) v fits in
    let low : v % 2 ^ w ≡ v = sym (ap (λ n. n % 2 ^ w) same) ∙ mod-mul-add 0 (2 ^ w) v fits in
    sym (ap (λ n. digits_of (2 ^ w) n ++ (v ∷ ws)) high)
    ∙ (sym (ap (λ n. digits_of (2 ^ w) (v / 2 ^ w) ++ (n ∷ ws)) low) ∙ next_digit w v ws some pos)

-- one word more is read
pub gives_push : {W E B : Type 0} (reads : B → Result (Option W) E → B → Type 0) (old between new : B) (ws : List W) (w : W) → ReadsReturn reads old ws between → reads between (Ok (Some w)) new → ReadsReturn reads old (ws ++ w ∷ []) new
gives_push reads old between new [] w h r = (new, subst (λ from. reads from (Ok (Some w)) new) h r, refl)
gives_push reads old between new (v ∷ ws) w h r = (h.0, h.1, gives_push reads h.0 between new ws w h.2 r)

-- what each read keeps of a backend, all of them keep
pub gives_keeps : {W E B A : Type 0} (seen : B → A) (reads : B → Result (Option W) E → B → Type 0) (old : B) (ws : List W) (new : B) → ReadsReturn reads old ws new
    → ((before after : B) (answer : Result (Option W) E) → reads before answer after → seen after ≡ seen before) → seen new ≡ seen old
gives_keeps seen reads old [] new h keeps = ap seen h
gives_keeps seen reads old (w ∷ ws) new h keeps = gives_keeps seen reads h.0 ws new h.2 keeps ∙ keeps old h.0 (Ok (Some w)) h.1
