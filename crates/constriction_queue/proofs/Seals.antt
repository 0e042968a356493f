-- Sealed words as digits. Lists of words have the last word first.
use Rattle.std.proofs.Common.{◌≡◌, ◌↔◌, ℕ, zero, suc, ◌+◌, ◌-◌, ◌*◌, ◌/◌, ◌%◌, ◌^◌, ◌<◌, ◌≤◌, ◌==◌, Bool, true, false, IsTrue, if◌then◌else◌, List, [], ◌∷◌, ◌++◌, map, replicate, reverse, length, refl, sym, ap, ◌∙◌, arith, inl, inr, append_assoc, pow_pos, mod-eq_of_lt, div-lt_iff_lt-mul, le-div_iff_mul-le, mul-le-mul_left, mul-le-mul_right, eq-eqb, ne_eqb, append-nil, mul-div_cancel, length-append}
use native.Mathlib.Nat.{add-mul-div_right}
use Rattle.std.proofs.lemmas.Bool.{cases_lt}
use Rattle.std.proofs.lemmas.List.{reverse-append, length-reverse, length-map}
use Rattle.std.proofs.lemmas.Nat.{div-mul-add, mod-mul-add}
use Rattle.constriction_base.specs.Steps.{AreWords}
use Rattle.constriction_queue.specs.Range.{sealed}
use Rattle.constriction_base.specs.Digits.{fixed_digits}
use Rattle.constriction_queue.specs.declared.situation.EncoderSituation.{EncoderSituation}
use Rattle.constriction_queue.specs.declared.situation.EncoderSituation.TheVariants.{Normal, Inverted}
use Rattle.constriction_queue.specs.Encoder.{number_of, repeated_words, run_of, IsCarried, pending_of, PartsFit, CanCarry}
use Rattle.constriction_base.proofs.Heads.{pow-split}
use Rattle.constriction_queue.proofs.Carry.{carry_held, length-held, not_less, less, pred_times}

-- ---- words below the base
pub words_of_numbers : {X : Type 0} (number : X → ℕ) (w : ℕ) (law : (x : X) → number x < 2 ^ w) (xs : List X) → AreWords w (map number xs)
words_of_numbers number w law [] = tt
words_of_numbers number w law (x ∷ xs) = (law x, words_of_numbers number w law xs)

words_after : (w x k : ℕ) (ws : List ℕ) → x < 2 ^ w → AreWords w ws → AreWords w (replicate k x ++ ws)
words_after w x zero ws h all = all
words_after w x (suc k) ws h all = (h, words_after w x k ws h all)

pub words_held_fit : (w x count first : ℕ) (ws : List ℕ) → x < 2 ^ w → first < 2 ^ w → AreWords w ws → AreWords w (repeated_words x count first ++ ws)
words_held_fit w x count first ws h f all = rw append_assoc (words_after w x (count - 1) (first ∷ ws) h (f, all))

-- held words that are let go
pub carried_held : (w count first : ℕ) (carry : Bool) (held ws : List ℕ) → first + 1 < 2 ^ w → AreWords w ws
    → held ≡ repeated_words (if carry then 0 else 2 ^ w - 1) count (if carry then first + 1 else first)
    → IsCarried w carry (repeated_words (2 ^ w - 1) count first ++ ws) (held ++ ws)
carried_held w count first true held ws fits all is = record {
  number = rw is (carry_held (2 ^ w) count first ws (pow_pos w));
  len = rw is (length-held 0 (2 ^ w - 1) count (first + 1) first ws);
  fit = rw is (words_held_fit w 0 count (first + 1) ws (pow_pos w) fits all);
}
carried_held w count first false held ws fits all is = record {
  number = rw is (omega arith);
  len = rw is refl;
  fit = rw is (words_held_fit w (2 ^ w - 1) count first ws (omega (arith, pow_pos w)) (omega arith) all);
}

-- ---- digits
pub digits_of_words : (w : ℕ) (ws : List ℕ) → AreWords w ws → fixed_digits (2 ^ w) (length ws) (number_of (2 ^ w) ws) ≡ reverse ws
digits_of_words w [] all = refl
digits_of_words w (x ∷ ws) all =
    let b : ℕ = 2 ^ w in
    let n : ℕ = number_of b ws in
    let high : (n * b + x) / b ≡ n = div-mul-add n b x all.0 in
    let low : (n * b + x) % b ≡ x = mod-mul-add n b x all.0 in
    ap (λ k. fixed_digits b (length ws) k ++ ((n * b + x) % b ∷ [])) high
    ∙ (ap (λ d. fixed_digits b (length ws) n ++ (d ∷ [])) low
    ∙ (ap (λ (ds : List ℕ). ds ++ (x ∷ [])) (digits_of_words w ws all.1) ∙ sym (reverse-append (x ∷ []) ws)))

-- the words with a carry, and the point's top word, are the digits of the seal's number
pub seal_digits : (w c t : ℕ) (carry : Bool) (ws vs : List ℕ) → IsCarried w carry ws vs → t < 2 ^ w
    → number_of (2 ^ w) vs * 2 ^ w + t ≡ c → fixed_digits (2 ^ w) (suc (length ws)) c ≡ reverse (t ∷ vs)
seal_digits w c t carry ws vs h small is =
    rw (← is, ← h.len) (digits_of_words w (t ∷ vs) (small, h.fit))

-- ---- the point, over numbers: it is the low end and q - 1, and t is its top word
ceil_split : (n l q b : ℕ) → 0 < q → (n * (q * b) + l + (q - 1)) / q ≡ n * b + (l + (q - 1)) / q
ceil_split n l q b h =
    let same : n * (q * b) + l + (q - 1) ≡ (l + (q - 1)) + n * b * q = omega arith in
    ap (λ x. x / q) same ∙ add-mul-div_right (l + (q - 1)) (n * b) h ∙ omega arith

-- the number, with the carry and without
pub seal_number_is : (n k l b q point t : ℕ) (carry : Bool) → 0 < q → 0 < b → l < q * b → k ≡ n + (if carry then 1 else 0)
    → point ≡ (l + (q - 1)) % (q * b) → (IsTrue carry ↔ (point < l)) → t ≡ point / q
    → k * b + t ≡ (n * (q * b) + l + (q - 1)) / q
seal_number_is n k l b q point t true hq hb fits k_is point_is wrapped t_is =
    let ends : q * 1 ≤ q * b = mul-le-mul_left q hb in
    let back : point + q * b ≡ l + (q - 1) = rw point_is (less l (q - 1) (q * b) fits (omega arith) (rw (← point_is) (wrapped.0 refl))) in
    let same : l + (q - 1) ≡ point + b * q = omega arith in
    let high : (l + (q - 1)) / q ≡ point / q + b = ap (λ x. x / q) same ∙ add-mul-div_right point b hq in
    rw (ceil_split n l q b hq, high, k_is, t_is) (omega arith)
seal_number_is n k l b q point t false hq hb fits k_is point_is wrapped t_is =
    let ends : q * 1 ≤ q * b = mul-le-mul_left q hb in
    let above : l ≤ point = elim (cases_lt point l) [
      | inl low ↦ absurd (let no = wrapped.1 low in cc)
      | inr high ↦ high
    ] in
    let same : point ≡ l + (q - 1) = point_is ∙ not_less l (q - 1) (q * b) fits (omega arith) (rw (← point_is) above) in
    rw (ceil_split n l q b hq, t_is, same, k_is) (omega arith)

-- a test as a Bool
pub test_is : (a b : ℕ) (zero : Bool) → (IsTrue zero ↔ (a ≡ b)) → (a == b) ≡ zero
test_is a b true h = eq-eqb a b (h.0 refl)
test_is a b false h = ne_eqb a b (λ e. let no = h.1 e in cc)

pub tail_is : (ends : Bool) (ws : List ℕ) → reverse ((if ends then 0 ∷ [] else []) ++ ws) ≡ reverse ws ++ (if ends then 0 ∷ [] else [])
tail_is true ws = reverse-append (0 ∷ []) ws
tail_is false ws = sym (append-nil (reverse ws))

-- nothing was coded: the words are as they are
pub sealed_start : (w s l r : ℕ) (ws : List ℕ) → AreWords w ws → l + r < 2 ^ s → r + 1 ≡ 2 ^ s → reverse ws ≡ sealed w s (run_of w s ws l r)
sealed_start w s l r ws all fits whole =
    let coded : (r == 2 ^ s - 1) ≡ true = eq-eqb r (2 ^ s - 1) (omega arith) in
    let none : number_of (2 ^ w) ws * 2 ^ s + l ≡ number_of (2 ^ w) ws * 2 ^ s = omega arith in
    let number : (number_of (2 ^ w) ws * 2 ^ s + l) / 2 ^ s ≡ number_of (2 ^ w) ws = ap (λ x. x / 2 ^ s) none ∙ mul-div_cancel (number_of (2 ^ w) ws) (pow_pos s) in
    rw (coded, number) (sym (digits_of_words w ws all))

-- ---- what a situation allows
pub ones_below : (w s x : ℕ) → w ≤ s → x + 1 ≡ 2 ^ s → x / 2 ^ w ≡ 2 ^ (s - w) - 1
ones_below w s x wide is =
    let q : ℕ = 2 ^ (s - w) in
    let b : ℕ = 2 ^ w in
    let split : q * b ≡ 2 ^ s = pow-split s w wide in
    let one : (q - 1) * b + b ≡ q * b = pred_times (q - 1) q b (omega (arith, pow_pos (s - w))) in
    let low : q - 1 ≤ x / b = (le-div_iff_mul-le (pow_pos w)).1 (omega (arith, pow_pos w)) in
    let high : x / b < q = (div-lt_iff_lt-mul (pow_pos w)).1 (omega arith) in
    omega arith

pub can_carry : {Word : Type 0} (number : Word → ℕ) (w s : ℕ) (situation : EncoderSituation Word) (l r point : ℕ) (carry : Bool)
    → PartsFit number w s situation l r → 2 ^ (s - w) ≤ r → point ≡ (l + (2 ^ (s - w) - 1)) % 2 ^ s → (IsTrue carry ↔ (point < l)) → CanCarry number w situation carry
can_carry number w s Normal l r point true fit long point_is wrapped =
    let fits : l + (2 ^ (s - w) - 1) < 2 ^ s = omega arith in
    let same : point ≡ l + (2 ^ (s - w) - 1) = point_is ∙ mod-eq_of_lt fits in
    let below : point < l = wrapped.0 refl in
    absurd (omega arith)
can_carry number w s Normal l r point false fit long point_is wrapped = refl
can_carry number w s (Inverted count first) l r point carry fit long point_is wrapped = fit.1

-- the greatest range: nothing is held
pub held_start : {Word : Type 0} (number : Word → ℕ) (w s : ℕ) (situation : EncoderSituation Word) (l r : ℕ)
    → PartsFit number w s situation l r → r + 1 ≡ 2 ^ s → (pending_of number w situation ≡ []) × (l + r < 2 ^ s)
held_start number w s Normal l r fit whole = (refl, fit)
held_start number w s (Inverted count first) l r fit whole = absurd (let small = fit.2 in omega arith)

pub greatest_range : (r x m : ℕ) → r < m → x + 1 ≡ m → (r < x → ⊥) → r + 1 ≡ m
greatest_range r x m fits is never = elim (cases_lt r x) [
  | inl low ↦ absurd (never low)
  | inr high ↦ omega arith
]

pub lesser_range : (r x m : ℕ) → x + 1 ≡ m → r < x → r + 1 < m
lesser_range r x m is less = omega arith

pub count_is : {X : Type 0} (number : X → ℕ) (owed : List ℕ) (ws : List X) (all : List ℕ) → reverse (owed ++ map number ws) ≡ all → length ws + length owed ≡ length all
count_is number owed ws all is =
    let len = ap length is in
    let front = length-reverse (owed ++ map number ws) ∙ length-append owed (map number ws) in
    omega (arith, len, front, length-map ws number)

-- ---- sizes

-- there are no more words than bits
pub words_within : (w n : ℕ) → 1 ≤ w → n ≤ w * n
words_within w n some =
    let more : 1 * n ≤ w * n = mul-le-mul_right n some in
    omega (arith, more)
