-- The product bounds: one inequality a step, and an induction.
use Rattle.std.proofs.Common.{lt-ltb, le-ltb, le_of_mul-le-mul_right, eq-eqb, ne_eqb, ◌≡◌, ℕ, suc, ◌+◌, ◌-◌, ◌*◌, ◌/◌, ◌^◌, ◌<◌, ◌≤◌, max, List, [], ◌∷◌, ◌++◌, length, refl, inl, inr, arith, pow_pos, pow-add, mul-le-mul_right, mul-le-mul, div-mul-le_self, mod-lt, le_trans, length-append}
use native.Mathlib.Nat.{pow-suc, pow-zero, le-max_left, le-max_right, one-le-pow, zero-max, mul-pos, mul-lt-mul_of_pos_right, pow-le-pow_right, mul_comm, max-eq_left, max-eq_right, le_of_lt, lt-div-mul-add}
use Rattle.std.proofs.lemmas.Bool.{cases_lt, cases_eq}
use Rattle.std.proofs.lemmas.Int.Digits.{length-digits_of-le, number_lt, number_digits_of, all_below_base_digits_of}
use Rattle.std.specs.Int.Digits.{digits_of, number_from_digits}
use Rattle.constriction_base.specs.Steps.{Step, IsStep, AreSteps, Trace, IsSizes, AreWords}
use Rattle.constriction_base.specs.Digits.{fixed_digits}
use Rattle.constriction_stack.specs.Ans.{AnsState, IsNormalized, refilled, pop_head, IsNext, pop, IsPush, empty, exported}
use Rattle.constriction_queue.specs.Range.{Run, initial, scale, cut, narrowed_by, run, IsInterval, sealed, seal_number}
use Rattle.constriction_laws.specs.Bounds.{product, spare, share, rounded_whole, Act, Encode, Decode, AreAllowed, Acts, net_share, net_whole}
use Rattle.constriction_base.proofs.Sizes.{Facts, facts, table_divides, pow-mul}
use Rattle.constriction_stack.proofs.Pushing.{only_push, written, kept, put_on, room, valid_pop}
use Rattle.constriction_queue.proofs.Narrowing.{by_growth, scale_least, valid_cut, valid_run, valid_start}
use Rattle.constriction_queue.specs.SelfDelimiting.{SelfDelimits}
use Rattle.constriction_queue.proofs.SealedRuns.{tail}
use Rattle.constriction_queue.proofs.SelfDelimited.{length_self}
use Rattle.constriction_base.proofs.Guards.{fixed-length}
use Rattle.constriction_laws.proofs.of_stack.ComingBack.{empty_valid}

-- ---- over numbers: h is the new head, a the old head's whole steps
written_bound : (h a x y b p n c : ℕ) → h ≤ suc a * n → a * p ≤ y → y * b ≤ x → p * (c * b) ≤ x → h * b * (p * c) ≤ x * (n * (c + 1))
written_bound h a x y b p n c hh ha hy hx =
    let m1 : h * (b * (p * c)) ≤ suc a * n * (b * (p * c)) = mul-le-mul_right (b * (p * c)) hh in
    let m2 : a * p * (b * (n * c)) ≤ y * (b * (n * c)) = mul-le-mul_right (b * (n * c)) ha in
    let m3 : y * b * (n * c) ≤ x * (n * c) = mul-le-mul_right (n * c) hy in
    let m4 : p * (c * b) * n ≤ x * n = mul-le-mul_right n hx in
    omega (arith, m1, m2, m3, m4)

kept_bound : (h a x f p n c : ℕ) → h ≤ suc a * n → a * p ≤ x → x ≤ f → p ≤ n → c * n ≤ f → h * (p * c) ≤ f * (n * (c + 1))
kept_bound h a x f p n c hh ha hx hp hf =
    let m1 : h * (p * c) ≤ suc a * n * (p * c) = mul-le-mul_right (p * c) hh in
    let m2 : a * p * (n * c) ≤ f * (n * c) = mul-le-mul_right (n * c) (omega arith) in
    let m3 : p * (c * n) ≤ n * (c * n) = mul-le-mul_right (c * n) hp in
    let m4 : c * n * n ≤ f * n = mul-le-mul_right n hf in
    omega (arith, m1, m2, m3, m4)

low_bound : (q f p n c : ℕ) → q ≤ f → p ≤ n → q * (p * c) ≤ f * (n * (c + 1))
low_bound q f p n c hq hp =
    let m1 : q * (p * c) ≤ f * (n * c) = mul-le-mul hq (mul-le-mul_right c hp) in
    omega (arith, m1)

range_bound : (r z p n c : ℕ) → r ≤ suc z * n → c ≤ z → r * (p * c) ≤ z * p * (n * (c + 1))
range_bound r z p n c hr hz =
    let m1 : r * (p * c) ≤ suc z * n * (p * c) = mul-le-mul_right (p * c) hr in
    let m2 : c * (n * p) ≤ z * (n * p) = mul-le-mul_right (n * p) hz in
    omega (arith, m1, m2)

-- ---- the potential of a state: its head, q at least, and a base for each word below
abbrev pub potential : ℕ → ℕ → AnsState → ℕ
potential w s x = max x.head (2 ^ (s - w)) * (2 ^ w) ^ length x.words

put_top : (e : Step) (y : ℕ) → 0 < e.p → e.left + e.p ≤ 2 ^ e.precision → put_on e y ≤ suc (y / e.p) * 2 ^ e.precision
put_top e y hp h = omega (arith, mod-lt y hp)

module _ (w s : ℕ) (e : Step) (z : IsSizes w s) (h : IsStep w e) where
  written_step : (x : AnsState) → IsNormalized w s (written w e x) → room w s e ≤ x.head → potential w s (written w e x) * share w s e ≤ potential w s x * rounded_whole w s e
  written_step x v long =
      let y : ℕ = x.head / 2 ^ w in
      let head : ℕ = put_on e y in
      let full : 2 ^ (s - w) ≤ head = elim v.full [ inl full ↦ full | inr none ↦ absurd (cc) ] in
      let some : max head (2 ^ (s - w)) ≡ head = max-eq_left full in
      let one : head * 2 ^ w * share w s e ≤ x.head * rounded_whole w s e =
      written_bound head (y / e.p) x.head y (2 ^ w) e.p (2 ^ e.precision) (spare w s e) (put_top e y h.not_empty h.inside) (div-mul-le_self y e.p) (div-mul-le_self x.head (2 ^ w)) long in
      let more : x.head * rounded_whole w s e ≤ max x.head (2 ^ (s - w)) * rounded_whole w s e = mul-le-mul_right (rounded_whole w s e) (le-max_left x.head (2 ^ (s - w))) in
      let all : head * 2 ^ w * share w s e * (2 ^ w) ^ length x.words ≤ max x.head (2 ^ (s - w)) * rounded_whole w s e * (2 ^ w) ^ length x.words = mul-le-mul_right ((2 ^ w) ^ length x.words) (le_trans one more) in
      rw (some, pow-suc (2 ^ w) (length x.words)) (omega (arith, all))

  kept_step : (x : AnsState) → potential w s (kept e x) * share w s e ≤ potential w s x * rounded_whole w s e
  kept_step x =
      let q : ℕ = 2 ^ (s - w) in
      let f : ℕ = max x.head q in
      let head : ℕ = put_on e x.head in
      let least : 2 ^ (s - w - e.precision) * 2 ^ e.precision ≤ f = omega (arith, le-max_right x.head q, table_divides w s e z h) in
      let high : head * share w s e ≤ f * rounded_whole w s e =
      kept_bound head (x.head / e.p) x.head f e.p (2 ^ e.precision) (spare w s e) (put_top e x.head h.not_empty h.inside) (div-mul-le_self x.head e.p) (le-max_left x.head q) (omega (arith, h.inside)) least in
      let low : q * share w s e ≤ f * rounded_whole w s e = low_bound q f e.p (2 ^ e.precision) (spare w s e) (le-max_right x.head q) (omega (arith, h.inside)) in
      let both : max head q * share w s e ≤ f * rounded_whole w s e =
      elim (cases_lt q head) [ inl less ↦ rw (max-eq_left (le_of_lt less)) high | inr more ↦ rw (max-eq_right more) low ] in
      let all : max head q * share w s e * (2 ^ w) ^ length x.words ≤ f * rounded_whole w s e * (2 ^ w) ^ length x.words = mul-le-mul_right ((2 ^ w) ^ length x.words) both in
      omega (arith, all)

  push_step : (x y : AnsState) → IsNormalized w s x → IsPush w s e x y → potential w s y * share w s e ≤ potential w s x * rounded_whole w s e
  push_step x y v i = elim (only_push w s e z h x y i) [
    | inl (long, is) ↦ rw is (written_step x (rw is at i.valid) long)
    | inr (short, is) ↦ rw is (kept_step x)
  ]

-- one step more in a chain of products
chain : (new next old a b c d : ℕ) → new * c ≤ next * d → next * a ≤ old * b → new * (a * c) ≤ old * (b * d)
chain new next old a b c d h1 h2 =
    let m1 : new * c * a ≤ next * d * a = mul-le-mul_right a h1 in
    let m2 : next * a * d ≤ old * b * d = mul-le-mul_right d h2 in
    omega (arith, m1, m2)

pub pushes_bound : (w s : ℕ) (es : List Step) (x y : AnsState) → IsSizes w s → AreSteps w es → IsNormalized w s x → Trace (IsPush w s) es x y →
    potential w s y * product (share w s) es ≤ potential w s x * product (rounded_whole w s) es
pushes_bound w s [] x y z hs v i = rw i (omega arith)
pushes_bound w s (e ∷ es) x y z hs v i =
    let rest = pushes_bound w s es i.0 y z hs.1 i.1.valid i.2 in
    chain (potential w s y) (potential w s i.0) (potential w s x) (share w s e) (rounded_whole w s e) (product (share w s) es) (product (rounded_whole w s) es)
    rest (push_step w s e z hs.0 x i.0 v i.1)

-- ---- words
base_le : (w i j : ℕ) → i ≤ j → (2 ^ w) ^ i ≤ (2 ^ w) ^ j
base_le w i j h = pow-le-pow_right (pow_pos w) h

-- a number has no more digits than it is worth
digits_top : (b n m : ℕ) → 2 ≤ b → n ≤ m → 1 ≤ m → b ^ (length (digits_of b n) - 1) ≤ m
digits_top b n m hb le one = elim (cases_lt n (b ^ (length (digits_of b n) - 1))) [
  | inl lt ↦
      let j : length (digits_of b n) ≤ length (digits_of b n) - 1 = length-digits_of-le b (length (digits_of b n) - 1) n hb lt in
      let none : length (digits_of b n) - 1 ≡ 0 = omega arith in
      rw (none, pow-zero b) one
  | inr ge ↦ le_trans ge le
]

exported_bound : (w s : ℕ) (x : AnsState) → IsSizes w s → (2 ^ w) ^ (length (exported w x) - 1) ≤ potential w s x
exported_bound w s x z =
    let f : Facts w s = facts w s z in
    let j : ℕ = length (digits_of (2 ^ w) x.head) in
    let l : ℕ = length x.words in
    let m : ℕ = max x.head (2 ^ (s - w)) in
    let count : length (exported w x) ≡ j + l = length-append (digits_of (2 ^ w) x.head) x.words in
    let top : (2 ^ w) ^ (j - 1) ≤ m = digits_top (2 ^ w) x.head m f.base (le-max_left x.head (2 ^ (s - w))) (omega (arith, le-max_right x.head (2 ^ (s - w)), pow_pos (s - w))) in
    let more : (2 ^ w) ^ (length (exported w x) - 1) ≤ (2 ^ w) ^ (j - 1 + l) = base_le w (length (exported w x) - 1) (j - 1 + l) (omega (arith, count)) in
    let all : (2 ^ w) ^ (j - 1) * (2 ^ w) ^ l ≤ m * (2 ^ w) ^ l = mul-le-mul_right ((2 ^ w) ^ l) top in
    omega (arith, more, all, pow-add (2 ^ w) (j - 1) l)

pub ans_words : (w s : ℕ) (es : List Step) (x : AnsState) → IsSizes w s → AreSteps w es → Trace (IsPush w s) es empty x →
    2 ^ (w * (length (exported w x) - 1)) * product (share w s) es ≤ 2 ^ (s - w) * product (rounded_whole w s) es
ans_words w s es x z hs i =
    let n : ℕ = length (exported w x) - 1 in
    let all = pushes_bound w s es empty x z hs (empty_valid w s) i in
    let begin : potential w s empty ≡ 2 ^ (s - w) = rw (zero-max (2 ^ (s - w)), pow-zero (2 ^ w)) (omega arith) in
    let words : (2 ^ w) ^ n * product (share w s) es ≤ potential w s x * product (share w s) es = mul-le-mul_right (product (share w s) es) (exported_bound w s x z) in
    rw (mul_comm w n, ← pow-mul w n, ← begin) (le_trans words all)

-- ---- range coding: the range over a base for each move
module _ (w s : ℕ) (e : Step) (z : IsSizes w s) (h : IsStep w e) where
  narrow_step : (r : Run) → IsInterval w s r →
      r.range * (2 ^ w) ^ (narrowed_by w s e r).moves * share w s e ≤ (narrowed_by w s e r).range * (2 ^ w) ^ r.moves * rounded_whole w s e
  narrow_step r v =
      let b : ℕ = 2 ^ w in
      let parts : r.range < scale e r * 2 ^ e.precision + 2 ^ e.precision = lt-div-mul-add (pow_pos e.precision) in
      let one : r.range * share w s e ≤ scale e r * e.p * rounded_whole w s e =
      range_bound r.range (scale e r) e.p (2 ^ e.precision) (spare w s e) (omega (arith, parts)) (scale_least w s e r z h v.least) in
      let all : r.range * share w s e * b ^ r.moves ≤ scale e r * e.p * rounded_whole w s e * b ^ r.moves = mul-le-mul_right (b ^ r.moves) one in
      by_growth w s (cut e r) (λ c. r.range * b ^ c.moves * share w s e ≤ c.range * b ^ r.moves * rounded_whole w s e)
      (λ small.
      let more : r.range * share w s e * b ^ r.moves * b ≤ scale e r * e.p * rounded_whole w s e * b ^ r.moves * b = mul-le-mul_right b all in
      rw (pow-suc b r.moves) (omega (arith, more)))
      (λ large. omega (arith, all))

-- the start's range and the last moves against the last range and the start's moves
range_chain : (r m t a u v c d rr mm : ℕ) → 0 < t → r * t * a ≤ rr * m * c → rr * u * v ≤ d * t * mm → r * u * (a * v) ≤ d * m * (c * mm)
range_chain r m t a u v c d rr mm ht h1 h2 =
    let m1 : r * t * a * (u * v) ≤ rr * m * c * (u * v) = mul-le-mul_right (u * v) h1 in
    let m2 : rr * u * v * (m * c) ≤ d * t * mm * (m * c) = mul-le-mul_right (m * c) h2 in
    let all : r * u * (a * v) * t ≤ d * m * (c * mm) * t = omega (arith, m1, m2) in
    le_of_mul-le-mul_right all ht

pub runs_bound : (w s : ℕ) (es : List Step) (r : Run) → IsSizes w s → AreSteps w es → IsInterval w s r →
    r.range * (2 ^ w) ^ (run w s es r).moves * product (share w s) es ≤ (run w s es r).range * (2 ^ w) ^ r.moves * product (rounded_whole w s) es
runs_bound w s [] r z hs v = omega arith
runs_bound w s (e ∷ es) r z hs v =
    let b : ℕ = 2 ^ w in
    let next : Run = narrowed_by w s e r in
    let last : Run = run w s es next in
    range_chain r.range (b ^ r.moves) (b ^ next.moves) (share w s e) (b ^ last.moves) (product (share w s) es) (rounded_whole w s e) last.range next.range (product (rounded_whole w s) es)
    (base_pos w next.moves) (narrow_step w s e z hs.0 r v) (runs_bound w s es next z hs.1 (valid_cut w s e r z hs.0 v))
  where
    base_pos : (w i : ℕ) → 0 < (2 ^ w) ^ i
    base_pos w i = one-le-pow i (2 ^ w) (pow_pos w)

product_pos : (w s : ℕ) (es : List Step) → 0 < product (rounded_whole w s) es
product_pos w s [] = omega arith
product_pos w s (e ∷ es) = mul-pos (whole_pos w s e) (product_pos w s es)
  where
    whole_pos : (w s : ℕ) (e : Step) → 0 < rounded_whole w s e
    whole_pos w s e = mul-pos (pow_pos e.precision) (omega arith)

length-tail : (w s : ℕ) (r : Run) → length (tail w s r) ≤ 1
length-tail w s r = elim (cases_eq ((r.low + r.range) / 2 ^ (s - w)) (seal_number w s r)) [
  | inl e ↦ rw (eq-eqb ((r.low + r.range) / 2 ^ (s - w)) (seal_number w s r) e) (omega arith)
  | inr ne ↦ rw (ne_eqb ((r.low + r.range) / 2 ^ (s - w)) (seal_number w s r) ne) (omega arith)
]

-- at most two words more than moves
pub length-sealed : (w s : ℕ) (r : Run) → length (sealed w s r) ≤ r.moves + 2
length-sealed w s r = elim (cases_eq r.range (2 ^ s - 1)) [
  | inl e ↦ rw (eq-eqb r.range (2 ^ s - 1) e) (omega (arith, fixed-length (2 ^ w) r.moves (r.low / 2 ^ s)))
  | inr ne ↦
      let count : length (fixed_digits (2 ^ w) (suc r.moves) (seal_number w s r) ++ tail w s r) ≡ length (fixed_digits (2 ^ w) (suc r.moves) (seal_number w s r)) + length (tail w s r) =
      length-append (fixed_digits (2 ^ w) (suc r.moves) (seal_number w s r)) (tail w s r) in
      rw (ne_eqb r.range (2 ^ s - 1) ne) (omega (arith, count, fixed-length (2 ^ w) (suc r.moves) (seal_number w s r), length-tail w s r))
]

-- so many words fewer than moves, or as many
range_moves : (w s n : ℕ) (es : List Step) → IsSizes w s → AreSteps w es → n ≤ (run w s es (initial s)).moves →
    2 ^ (w * n) * (2 ^ s - 1) * product (share w s) es < 2 ^ s * product (rounded_whole w s) es
range_moves w s n es z hs within =
    let b : ℕ = 2 ^ w in
    let r : Run = run w s es (initial s) in
    let v : IsInterval w s r = valid_run w s es (initial s) z hs (valid_start w s z) in
    let all : (2 ^ s - 1) * b ^ r.moves * product (share w s) es ≤ r.range * b ^ 0 * product (rounded_whole w s) es = runs_bound w s es (initial s) z hs (valid_start w s z) in
    let fewer : b ^ n ≤ b ^ r.moves = base_le w n r.moves within in
    let left : b ^ n * ((2 ^ s - 1) * product (share w s) es) ≤ b ^ r.moves * ((2 ^ s - 1) * product (share w s) es) = mul-le-mul_right ((2 ^ s - 1) * product (share w s) es) fewer in
    let right : r.range * product (rounded_whole w s) es < 2 ^ s * product (rounded_whole w s) es = mul-lt-mul_of_pos_right v.fits (product_pos w s es) in
    let one : b ^ 0 ≡ 1 = pow-zero b in
    let begin : r.range * b ^ 0 * product (rounded_whole w s) es ≡ r.range * product (rounded_whole w s) es = rw one (omega arith) in
    let ends : b ^ n * (2 ^ s - 1) * product (share w s) es < 2 ^ s * product (rounded_whole w s) es = omega (arith, all, left, right, begin) in
    rw (mul_comm w n, ← pow-mul w n) ends

pub range_words : (w s : ℕ) (es : List Step) → IsSizes w s → AreSteps w es → 2 ≤ length (sealed w s (run w s es (initial s))) →
    2 ^ (w * (length (sealed w s (run w s es (initial s))) - 2)) * (2 ^ s - 1) * product (share w s) es < 2 ^ s * product (rounded_whole w s) es
range_words w s es z hs two =
    let r : Run = run w s es (initial s) in
    range_moves w s (length (sealed w s r) - 2) es z hs (omega (arith, length-sealed w s r))

pub self_delimiting_words : (w s : ℕ) (es : List Step) (words : List ℕ) → IsSizes w s → AreSteps w es → SelfDelimits w s (run w s es (initial s)) words →
    2 ^ (w * (length words - s / w)) * (2 ^ s - 1) * product (share w s) es < 2 ^ s * product (rounded_whole w s) es
self_delimiting_words w s es words z hs h =
    range_moves w s (length words - s / w) es z hs (omega (arith, length_self w s (run w s es (initial s)) words z h))

-- ---- decodes too
pop_bound : (h a x f p n c : ℕ) → h ≤ suc a * p → a * n ≤ x → x ≤ f → c * n ≤ f → h * (n * c) ≤ f * (p * (c + 1))
pop_bound h a x f p n c hh ha hx hf =
    let m1 : h * (n * c) ≤ suc a * p * (n * c) = mul-le-mul_right (n * c) hh in
    let m2 : a * n * (p * c) ≤ f * (p * c) = mul-le-mul_right (p * c) (omega arith) in
    let m3 : c * n * p ≤ f * p = mul-le-mul_right p hf in
    omega (arith, m1, m2, m3)

refill_bound : (y v b c f n p k : ℕ) → v < b → y < c → c * (n * k) ≤ f * (p * (k + 1)) → (y * b + v) * (n * k) ≤ f * b * (p * (k + 1))
refill_bound y v b c f n p k hv hy h =
    let m1 : suc y * b ≤ c * b = mul-le-mul_right b hy in
    let m2 : (y * b + v) * (n * k) ≤ c * b * (n * k) = mul-le-mul_right (n * k) (omega (arith, m1)) in
    let m3 : c * (n * k) * b ≤ f * (p * (k + 1)) * b = mul-le-mul_right b h in
    omega (arith, m2, m3)

abbrev pub decoded_share : ℕ → ℕ → Step → ℕ
decoded_share w s e = 2 ^ e.precision * spare w s e

abbrev pub decoded_whole : ℕ → ℕ → Step → ℕ
decoded_whole w s e = e.p * (spare w s e + 1)

-- a head that stays, or one that takes a word
by_refill : (w s head : ℕ) (ws : List ℕ) (P : AnsState → Type 0) → P (record { head = head; words = ws }) →
    ((u : ℕ) (us : List ℕ) → ws ≡ u ∷ us → P (record { head = head * 2 ^ w + u; words = us })) → P (refilled w s head ws)
by_refill w s head [] P stays takes = stays
by_refill w s head (u ∷ us) P stays takes = elim (cases_lt head (2 ^ (s - w))) [
  | inl low ↦ rw (lt-ltb head (2 ^ (s - w)) low) (takes u us refl)
  | inr high ↦ rw (le-ltb head (2 ^ (s - w)) high) stays
]

module _ (w s : ℕ) (e : Step) (z : IsSizes w s) (h : IsStep w e) where
  pop_words : (x : AnsState) (ws : List ℕ) → x.words ≡ ws → AreWords w ws → IsNext e x → 2 ^ (s - w) ≤ (refilled w s (pop_head e x) ws).head →
      potential w s (refilled w s (pop_head e x) ws) * decoded_share w s e ≤ max x.head (2 ^ (s - w)) * (2 ^ w) ^ length ws * decoded_whole w s e
  pop_words x ws is small i =
      let q : ℕ = 2 ^ (s - w) in
      let b : ℕ = 2 ^ w in
      let n : ℕ = 2 ^ e.precision in
      let f : ℕ = max x.head q in
      let c : ℕ = suc (x.head / n) * e.p in
      let least : 2 ^ (s - w - e.precision) * n ≤ f = omega (arith, le-max_right x.head q, table_divides w s e z h) in
      let part : pop_head e x < c = omega (arith, i.below, i.from) in
      let whole : c * decoded_share w s e ≤ f * decoded_whole w s e =
      pop_bound c (x.head / n) x.head f e.p n (spare w s e) (omega arith) (div-mul-le_self x.head n) (le-max_left x.head q) least in
      by_refill w s (pop_head e x) ws (λ y. q ≤ y.head → potential w s y * decoded_share w s e ≤ f * b ^ length ws * decoded_whole w s e)
      (λ full.
      let one : pop_head e x * decoded_share w s e ≤ c * decoded_share w s e = mul-le-mul_right (decoded_share w s e) (omega (arith, part)) in
      let all : pop_head e x * decoded_share w s e * b ^ length ws ≤ f * decoded_whole w s e * b ^ length ws = mul-le-mul_right (b ^ length ws) (le_trans one whole) in
      rw (max-eq_left full) (omega (arith, all)))
      (λ u us made full.
      let below : u < b = (rw made at small).0 in
      let one : (pop_head e x * b + u) * decoded_share w s e ≤ f * b * decoded_whole w s e =
      refill_bound (pop_head e x) u b c f n e.p (spare w s e) below part whole in
      let all : (pop_head e x * b + u) * decoded_share w s e * b ^ length us ≤ f * b * decoded_whole w s e * b ^ length us = mul-le-mul_right (b ^ length us) one in
      rw (max-eq_left full, made, pow-suc b (length us)) (omega (arith, all)))

  pop_step : (x : AnsState) → IsNormalized w s x → IsNext e x → 2 ^ (s - w) ≤ (pop w s e x).head →
      potential w s (pop w s e x) * decoded_share w s e ≤ potential w s x * decoded_whole w s e
  pop_step x v i full = pop_words x x.words refl v.state.are_words i full

acts_bound : (w s : ℕ) (acts : List Act) (x y : AnsState) → IsSizes w s → AreAllowed w acts → IsNormalized w s x → Trace (Acts w s) acts x y →
    potential w s y * product (net_share w s) acts ≤ potential w s x * product (net_whole w s) acts
acts_bound w s [] x y z hs v i = rw i (omega arith)
acts_bound w s (Encode e ∷ acts) x y z hs v i =
    let rest = acts_bound w s acts i.0 y z hs.1 i.1.valid i.2 in
    chain (potential w s y) (potential w s i.0) (potential w s x) (share w s e) (rounded_whole w s e) (product (net_share w s) acts) (product (net_whole w s) acts)
    rest (push_step w s e z hs.0 x i.0 v i.1)
acts_bound w s (Decode e ∷ acts) x y z hs v i =
    let popped : i.0 ≡ pop w s e x = i.1.0.1 in
    let full : 2 ^ (s - w) ≤ (pop w s e x).head = rw popped at i.1.1 in
    let rest = acts_bound w s acts (pop w s e x) y z hs.1 (valid_pop w s e z hs.0 x v i.1.0.0) (rw popped at i.2) in
    chain (potential w s y) (potential w s (pop w s e x)) (potential w s x) (decoded_share w s e) (decoded_whole w s e) (product (net_share w s) acts) (product (net_whole w s) acts)
    rest (pop_step w s e z hs.0 x v i.1.0.0 full)

net_pos : (w s : ℕ) (acts : List Act) → AreAllowed w acts → 0 < product (net_whole w s) acts
net_pos w s [] hs = omega arith
net_pos w s (Encode e ∷ acts) hs = mul-pos (mul-pos (pow_pos e.precision) (omega arith)) (net_pos w s acts hs.1)
net_pos w s (Decode e ∷ acts) hs = mul-pos (mul-pos hs.0.not_empty (omega arith)) (net_pos w s acts hs.1)

-- a full head's potential is below a base for each exported word
potential_below : (w s : ℕ) (x : AnsState) → IsSizes w s → 2 ^ (s - w) ≤ x.head → potential w s x < (2 ^ w) ^ length (exported w x)
potential_below w s x z full =
    let b : ℕ = 2 ^ w in
    let f : Facts w s = facts w s z in
    let ds : List ℕ = digits_of b x.head in
    let below : number_from_digits b ds < b ^ length ds = number_lt b ds (all_below_base_digits_of b x.head f.base) in
    let head : x.head < b ^ length ds = rw (number_digits_of b x.head f.base) at below in
    let all : x.head * b ^ length x.words < b ^ length ds * b ^ length x.words = mul-lt-mul_of_pos_right head (one-le-pow (length x.words) b (pow_pos w)) in
    rw (max-eq_left full, length-append ds x.words, pow-add b (length ds) (length x.words)) all

pub net_words : (w s : ℕ) (acts : List Act) (x y : AnsState) → IsSizes w s → AreAllowed w acts → IsNormalized w s x → 2 ^ (s - w) ≤ x.head → Trace (Acts w s) acts x y →
    2 ^ (w * (length (exported w y) - 1)) * product (net_share w s) acts < 2 ^ (w * length (exported w x)) * product (net_whole w s) acts
net_words w s acts x y z hs v full i =
    let b : ℕ = 2 ^ w in
    let n : ℕ = length (exported w y) - 1 in
    let u : ℕ = length (exported w x) in
    let words : b ^ n * product (net_share w s) acts ≤ potential w s y * product (net_share w s) acts = mul-le-mul_right (product (net_share w s) acts) (exported_bound w s y z) in
    let begin : potential w s x * product (net_whole w s) acts < b ^ u * product (net_whole w s) acts = mul-lt-mul_of_pos_right (potential_below w s x z full) (net_pos w s acts hs) in
    let all = acts_bound w s acts x y z hs v i in
    rw (mul_comm w n, ← pow-mul w n, mul_comm w u, ← pow-mul w u) (omega (arith, words, begin, all))
