-- A seal by the gap between the point's top word and the interval's end: how many zero words are enough.
use Rattle.std.proofs.Common.{◌≡◌, ◌↔◌, ℕ, zero, suc, ◌+◌, ◌-◌, ◌*◌, ◌/◌, ◌%◌, ◌^◌, ◌<◌, ◌≤◌, ◌==◌, Bool, true, false, IsTrue, if◌then◌else◌, List, [], ◌∷◌, ◌++◌, replicate, reverse, length, refl, sym, ap, ◌∙◌, arith, inl, inr, append_assoc, pow_pos, mod-lt, mod-eq_of_lt, div-add-mod', div-lt_iff_lt-mul, le-div_iff_mul-le, div-mul-le_self, mul-le-mul_left, mul-le-mul_right, ne_eqb, pow-add, mul-div_cancel, nat_lt, lt-ltb}
use native.Mathlib.Nat.{add-mul-mod_self_right, lt-div-mul-add}
use Rattle.std.proofs.lemmas.Bool.{cases_lt, ltb-true}
use Rattle.std.proofs.lemmas.List.{reverse-append}
use Rattle.constriction_base.specs.Digits.{fixed_digits}
use Rattle.constriction_base.specs.Steps.{AreWords, IsSizes}
use Rattle.constriction_base.proofs.Sizes.{pow_le}
use Rattle.constriction_queue.specs.Range.{seal_number, sealed}
use Rattle.constriction_queue.specs.SelfDelimiting.{SelfDelimits}
use Rattle.constriction_queue.specs.Encoder.{number_of, run_of, IsCarried}
use Rattle.constriction_base.proofs.Heads.{pow-split}
use Rattle.constriction_queue.proofs.Carry.{wraps}
use Rattle.constriction_queue.proofs.Parts.{top_is}
use Rattle.constriction_queue.proofs.Seals.{digits_of_words, seal_digits, seal_number_is, test_is, tail_is}

-- ---- how many zero words, by the bits of the gap
half_of : (l gap : ℕ) → 1 ≤ l → 2 ^ l ≤ 2 * gap + 1 → 2 ^ (l - 1) ≤ gap
half_of l gap some h =
    let e : l ≡ 1 + (l - 1) = omega arith in
    let split : 2 ^ l ≡ 2 ^ 1 * 2 ^ (l - 1) = ap (λ n. 2 ^ n) e ∙ pow-add 2 1 (l - 1) in
    omega (arith, split)

some_bits_of : (l gap : ℕ) → 0 < gap → gap < 2 ^ l → 1 ≤ l
some_bits_of zero gap some h = absurd (omega arith)
some_bits_of (suc l) gap some h = omega arith

pub zeros_few : (w s l gap : ℕ) → IsSizes w s → 0 < gap → gap < 2 ^ l → l ≤ s → (s - l) / w < s / w
zeros_few w s l gap z some below within =
    let bits : 1 ≤ l = some_bits_of l gap some below in
    let whole : s / w * w ≡ s = omega (arith, z.whole, div-add-mod' s w) in
    (div-lt_iff_lt-mul z.some_bits).1 (omega (arith, whole, bits, within, z.two_words, z.some_bits))

pub zeros_enough : (w s l gap : ℕ) → IsSizes w s → 0 < gap → gap < 2 ^ l → 2 ^ l ≤ 2 * gap + 1 → l ≤ s → 2 ^ (s - w - (s - l) / w * w) ≤ gap
zeros_enough w s l gap z some below least within =
    let bits : 1 ≤ l = some_bits_of l gap some below in
    let next : s - l < (s - l) / w * w + w = lt-div-mul-add z.some_bits in
    let less : s - w - (s - l) / w * w ≤ l - 1 = omega (arith, next, bits, within) in
    let m : 2 ^ (s - w - (s - l) / w * w) ≤ 2 ^ (l - 1) = pow_le (s - w - (s - l) / w * w) (l - 1) less in
    omega (arith, m, half_of l gap bits least)

pub zeros_least : (w s l gap k : ℕ) → gap < 2 ^ l → l ≤ s → k < (s - l) / w → gap < 2 ^ (s - w - k * w)
zeros_least w s l gap k below within less =
    let rows : (k + 1) * w ≤ (s - l) / w * w = mul-le-mul_right w (omega (arith, less)) in
    let upto : (s - l) / w * w ≤ s - l = div-mul-le_self (s - l) w in
    let m : 2 ^ l ≤ 2 ^ (s - w - k * w) = pow_le l (s - w - k * w) (omega (arith, rows, upto, within)) in
    omega (arith, m, below)

pub zeros_most : (w s l gap : ℕ) → 8 ≤ w → s ≤ 128 → 0 < gap → gap < 2 ^ l → (s - l) / w < 16
zeros_most w s l gap wide most some below =
    let bits : 1 ≤ l = some_bits_of l gap some below in
    let rows : 16 * 8 ≤ 16 * w = mul-le-mul_left 16 wide in
    (div-lt_iff_lt-mul (omega (arith, wide))).1 (omega (arith, rows, bits, most))

-- ---- the gap
-- the low bits of the point are those of the number
low_bits_of : (l q b : ℕ) → 0 < q → 0 < b → l < q * b → (l + (q - 1)) % (q * b) % q ≡ (l + (q - 1)) % q
low_bits_of l q b hq hb fits =
    let ends : q * 1 ≤ q * b = mul-le-mul_left q hb in
    elim (cases_lt (l + (q - 1)) (q * b)) [
      | inl low ↦ rw (mod-eq_of_lt low) refl
      | inr over ↦
          let p : ℕ = (l + (q - 1)) % (q * b) in
          let back : p + q * b ≡ l + (q - 1) = wraps l (q - 1) (q * b) fits (omega arith) over in
          let same : l + (q - 1) ≡ p + b * q = omega (arith, back) in
          sym (ap (λ x. x % q) same ∙ add-mul-mod_self_right p b q)
    ]

pub gap_is : (n l r q b c point gap : ℕ) → 0 < q → 0 < b → l < q * b → q ≤ r → c ≡ (n * (q * b) + l + (q - 1)) / q
    → point ≡ (l + (q - 1)) % (q * b) → gap ≡ r - ((q - 1) - point % q) → c * q + gap ≡ n * (q * b) + l + r
gap_is n l r q b c point gap hq hb fits long c_is point_is above =
    let a : ℕ = n * (q * b) + l + (q - 1) in
    let rest : ℕ = point % q in
    let small : rest < q = mod-lt point hq in
    let parts : a / q * q + a % q ≡ a = div-add-mod' a q in
    let same : a ≡ (l + (q - 1)) + n * b * q = omega arith in
    let low : a % q ≡ rest = ap (λ x. x % q) same ∙ add-mul-mod_self_right (l + (q - 1)) (n * b) q ∙ sym (low_bits_of l q b hq hb fits) ∙ ap (λ x. x % q) (sym point_is) in
    let c_times : c * q ≡ a / q * q = ap (λ x. x * q) c_is in
    omega (arith, parts, low, c_times, small, long, above)

-- the interval ends before the next multiple exactly where the gap is below q
pub ends_by_gap : (high q c gap : ℕ) → 0 < q → c * q + gap ≡ high → (high / q ≡ c) ↔ (gap < q)
ends_by_gap high q c gap hq total = (
  λ e.
      let next : high < high / q * q + q = lt-div-mul-add hq in
      let times : high / q * q ≡ c * q = ap (λ x. x * q) e in
      omega (arith, next, times, total),
  λ small.
      let from : c ≤ high / q = (le-div_iff_mul-le hq).1 (omega (arith, total)) in
      let below : high / q < c + 1 = (div-lt_iff_lt-mul hq).1 (omega (arith, total, small)) in
      omega (arith, from, below),
)

-- a zero word is wanted exactly where the gap is below q
pub zeros_by_gap : (w s count gap : ℕ) → 2 ^ (s - w - count * w) ≤ gap → ((k : ℕ) → k < count → gap < 2 ^ (s - w - k * w)) → (0 < count) ↔ (gap < 2 ^ (s - w))
zeros_by_gap w s zero gap enough least =
    let none : s - w - 0 * w ≡ s - w = omega arith in
    let long : 2 ^ (s - w) ≤ gap = rw none at enough in
    (λ no. absurd (omega arith), λ short. absurd (omega (arith, long, short)))
zeros_by_gap w s (suc k) gap enough least =
    let none : s - w - 0 * w ≡ s - w = omega arith in
    (λ some. rw none at (least 0 (omega arith)), λ short. omega arith)

pub some_wanted : (count : ℕ) → IsTrue (nat_lt 0 count) ↔ (0 < count)
some_wanted count = (ltb-true 0 count, lt-ltb 0 count)

-- ---- zero words
one_behind : (k : ℕ) → replicate {A = ℕ} k 0 ++ (0 ∷ []) ≡ 0 ∷ replicate {A = ℕ} k 0
one_behind zero = refl
one_behind (suc k) = ap (λ (ws : List ℕ). 0 ∷ ws) (one_behind k)

reverse_zeros : (k : ℕ) → reverse (replicate {A = ℕ} k 0) ≡ replicate {A = ℕ} k 0
reverse_zeros zero = refl
reverse_zeros (suc k) = reverse-append (0 ∷ []) (replicate {A = ℕ} k 0) ∙ ap (λ (ws : List ℕ). ws ++ (0 ∷ [])) (reverse_zeros k) ∙ one_behind k

pub all_zeros : (count : ℕ) (ends : Bool) → (IsTrue ends ↔ (0 < count)) → replicate {A = ℕ} (count - 1) 0 ++ (if ends then 0 ∷ [] else []) ≡ replicate {A = ℕ} count 0
all_zeros zero true h = absurd (let no : 0 < 0 = h.0 refl in omega arith)
all_zeros zero false h = refl
all_zeros (suc k) true h =
    let one : suc k - 1 ≡ k = omega arith in
    rw one (one_behind k)
all_zeros (suc k) false h = absurd (let off = h.1 (omega arith) in cc)

-- ---- a seal of an encoder
-- what both forms rest on: the digits, and what is left above them
module _ (w s l r point t gap : ℕ) (carry : Bool) (ws vs : List ℕ) (wide : w ≤ s) (lf : l < 2 ^ s) (long : 2 ^ (s - w) ≤ r) (into : IsCarried w carry ws vs)
    (point_is : point ≡ (l + (2 ^ (s - w) - 1)) % 2 ^ s) (wrapped : IsTrue carry ↔ (point < l)) (top_word : t ≡ point / 2 ^ (s - w) % 2 ^ w)
    (gap_to : gap ≡ r - ((2 ^ (s - w) - 1) - point % 2 ^ (s - w))) where
  split_state : 2 ^ (s - w) * 2 ^ w ≡ 2 ^ s
  split_state = pow-split s w wide

  digits_are : fixed_digits (2 ^ w) (suc (length ws)) (seal_number w s (run_of w s ws l r)) ≡ reverse (t ∷ vs)
  digits_are =
      let q : ℕ = 2 ^ (s - w) in
      let b : ℕ = 2 ^ w in
      let n : ℕ = number_of b ws in
      let k : ℕ = number_of b vs in
      let split : q * b ≡ 2 ^ s = pow-split s w wide in
      let point_fits : point < 2 ^ s = rw point_is (mod-lt (l + (q - 1)) (pow_pos s)) in
      let top : t ≡ point / q = top_word ∙ top_is w s point wide point_fits in
      let small : t < b = rw top_word (mod-lt (point / q) (pow_pos w)) in
      let number : k * b + t ≡ (n * 2 ^ s + l + (q - 1)) / q =
      rw (← split) (seal_number_is n k l b q point t carry (pow_pos (s - w)) (pow_pos w) (rw split lf) into.number (rw split point_is) wrapped top) in
      seal_digits w ((n * 2 ^ s + l + (q - 1)) / q) t carry ws vs into small number

  total_is : seal_number w s (run_of w s ws l r) * 2 ^ (s - w) + gap ≡ number_of (2 ^ w) ws * 2 ^ s + l + r
  total_is =
      let q : ℕ = 2 ^ (s - w) in
      let b : ℕ = 2 ^ w in
      let split : q * b ≡ 2 ^ s = pow-split s w wide in
      let c : ℕ = seal_number w s (run_of w s ws l r) in
      rw split at (gap_is (number_of b ws) l r q b c point gap (pow_pos (s - w)) (pow_pos w) (rw split lf) long (rw split refl) (rw split point_is) gap_to)

  pub sealed_by_gap : (count : ℕ) (ends : Bool) → r + 1 < 2 ^ s → (IsTrue ends ↔ (0 < count)) → ((0 < count) ↔ (gap < 2 ^ (s - w)))
      → reverse ((if ends then 0 ∷ [] else []) ++ (t ∷ vs)) ≡ sealed w s (run_of w s ws l r)
  sealed_by_gap count ends rf ends_is zeros_are =
      let q : ℕ = 2 ^ (s - w) in
      let run = run_of w s ws l r in
      let c : ℕ = seal_number w s run in
      let high : ℕ = run.low + run.range in
      let by_gap : (high / q ≡ c) ↔ (gap < q) = ends_by_gap high q c gap (pow_pos (s - w)) total_is in
      let test : (high / q == c) ≡ ends = test_is (high / q) c ends (λ h. by_gap.1 (zeros_are.0 (ends_is.0 h)), λ e. ends_is.1 (zeros_are.1 (by_gap.0 e))) in
      let coded : (r == 2 ^ s - 1) ≡ false = ne_eqb r (2 ^ s - 1) (λ e. absurd (omega arith)) in
      rw (coded, test, digits_are) (tail_is ends (t ∷ vs))

  pub self_delimited_by_gap : (count : ℕ) (ends : Bool) → r + 1 < 2 ^ s → (IsTrue ends ↔ (0 < count))
      → count < s / w → 2 ^ (s - w - count * w) ≤ gap → ((k : ℕ) → k < count → gap < 2 ^ (s - w - k * w))
      → SelfDelimits w s (run_of w s ws l r) (reverse ((replicate {A = ℕ} (count - 1) 0 ++ ((if ends then 0 ∷ [] else []) ++ (t ∷ vs)))))
  self_delimited_by_gap count ends rf ends_is few enough least =
      let run = run_of w s ws l r in
      let all : replicate {A = ℕ} (count - 1) 0 ++ ((if ends then 0 ∷ [] else []) ++ (t ∷ vs)) ≡ replicate {A = ℕ} count 0 ++ (t ∷ vs) =
      sym (append_assoc (replicate {A = ℕ} (count - 1) 0) (if ends then 0 ∷ [] else []) (t ∷ vs)) ∙ ap (λ (xs : List ℕ). xs ++ (t ∷ vs)) (all_zeros count ends ends_is) in
      let turned : reverse (replicate {A = ℕ} count 0 ++ (t ∷ vs)) ≡ reverse (t ∷ vs) ++ replicate {A = ℕ} count 0 =
      reverse-append (replicate {A = ℕ} count 0) (t ∷ vs) ∙ ap (λ (xs : List ℕ). reverse (t ∷ vs) ++ xs) (reverse_zeros count) in
      inr (
        rf,
        (
          count,
          record {
            few = few;
            enough = omega (arith, total_is, enough);
            least = λ k less is. omega (arith, total_is, least k less, is);
          },
          ap reverse all ∙ turned ∙ ap (λ (xs : List ℕ). xs ++ replicate {A = ℕ} count 0) (sym digits_are),
        ),
      )

-- nothing was coded: the words are as they are
pub self_delimited_start : (w s l r : ℕ) (ws : List ℕ) → AreWords w ws → l + r < 2 ^ s → r + 1 ≡ 2 ^ s → SelfDelimits w s (run_of w s ws l r) (reverse ws)
self_delimited_start w s l r ws all fits whole =
    let none : number_of (2 ^ w) ws * 2 ^ s + l ≡ number_of (2 ^ w) ws * 2 ^ s = omega arith in
    let number : (number_of (2 ^ w) ws * 2 ^ s + l) / 2 ^ s ≡ number_of (2 ^ w) ws = ap (λ x. x / 2 ^ s) none ∙ mul-div_cancel (number_of (2 ^ w) ws) (pow_pos s) in
    inl (whole, rw number (sym (digits_of_words w ws all)))
