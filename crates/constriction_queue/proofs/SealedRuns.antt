-- Sealed words are read as the steps.
use Rattle.std.proofs.Common.{append-nil, ◌≡◌, ℕ, zero, suc, ◌+◌, ◌-◌, ◌*◌, ◌/◌, ◌%◌, ◌^◌, ◌<◌, ◌≤◌, ◌≢◌, List, [], ◌∷◌, ◌++◌, get_or, slice_index, length, if◌then◌else◌, ◌==◌, refl, sym, ap, ◌∙◌, inl, inr, ◌⊎◌, arith, pow_pos, append_assoc, div-add-mod', mod-lt, eq-eqb, ne_eqb, div-lt_iff_lt-mul, le-div_iff_mul-le, div-mul-le_self, lt_of_mul-lt-mul_right, mul-le-mul_right, mul-le-mul_left, add-zero, add-suc, length-append}
use native.Mathlib.Nat.{pow-suc, pow-zero, lt-div-mul-add}
use Rattle.std.proofs.lemmas.Bool.{cases_eq}
use Rattle.std.proofs.Math.Seq.{get_or-append_seam, get_or-append-add}
use Rattle.std.proofs.Math.ListN.{get_or-append}
use Rattle.constriction_base.specs.Steps.{Step, IsStep, AreSteps, IsSizes, AreWords}
use Rattle.constriction_queue.specs.Range.{Run, initial, scale, cut, narrowed_by, run, IsInterval, number_read, ReadAs, Within, number_of_first, seal_number, sealed}
use Rattle.constriction_base.specs.Digits.{fixed_digits}
use Rattle.constriction_base.proofs.Sizes.{Facts, facts, pow_le, whole_divides}
use Rattle.constriction_queue.proofs.WordsRead.{number_below}
use Rattle.constriction_queue.proofs.Narrowing.{by_growth, valid_cut, valid_start, valid_run}
use Rattle.constriction_queue.proofs.ReadingRuns.{reads_run}
use Rattle.constriction_base.proofs.WordLists.{words-append, words-fixed_digits}
use Rattle.constriction_base.proofs.Guards.{fixed-length}

pub number_front : (b m : ℕ) (xs ys : List ℕ) → m ≤ length xs → number_of_first b m (xs ++ ys) ≡ number_of_first b m xs
number_front b zero xs ys h = refl
number_front b (suc m) xs ys h = rw (number_front b m xs ys (omega arith), get_or-append xs ys 0 m h) refl

-- the number of a list and of more words after it
number_append : (b j : ℕ) (xs ys : List ℕ) → number_of_first b (length xs + j) (xs ++ ys) ≡ number_of_first b (length xs) xs * b ^ j + number_of_first b j ys
number_append b zero xs ys = rw (add-zero (length xs), pow-zero b, number_front b (length xs) xs ys (omega arith)) (omega arith)
number_append b (suc j) xs ys =
    rw (add-suc (length xs) j, number_append b j xs ys, get_or-append-add xs ys j 0, pow-suc b j) (omega arith)

-- the same at a list whose length and number are known
pub number_after : (b m j c : ℕ) (xs ys : List ℕ) → length xs ≡ m → number_of_first b m xs ≡ c → number_of_first b (m + j) (xs ++ ys) ≡ c * b ^ j + number_of_first b j ys
number_after b m j c xs ys len e = rw (← len, number_append b j xs ys, len, e) refl

number-fixed_digits : (b k n : ℕ) → 0 < b → n < b ^ k → number_of_first b k (fixed_digits b k n) ≡ n
number-fixed_digits b zero n hb h = let one : b ^ 0 ≡ 1 = pow-zero b in omega (arith, one)
number-fixed_digits b (suc k) n hb h =
    let ds : List ℕ = fixed_digits b k (n / b) in
    let len : length ds ≡ k = fixed-length b k (n / b) in
    let small : n < b ^ k * b = rw (pow-suc b k) at h in
    let below : n / b < b ^ k = (div-lt_iff_lt-mul hb).1 small in
    let front : number_of_first b k (ds ++ (n % b ∷ [])) ≡ n / b = number_front b k ds (n % b ∷ []) (omega arith) ∙ number-fixed_digits b k (n / b) hb below in
    let last : get_or (ds ++ (n % b ∷ [])) k 0 ≡ n % b =
    rw len at (get_or-append_seam ds (n % b) [] 0) in
    rw (front, last) (div-add-mod' n b)

-- the zero word where it is wanted
abbrev pub tail : ℕ → ℕ → Run → List ℕ
tail w s r = if (r.low + r.range) / 2 ^ (s - w) == seal_number w s r then 0 ∷ [] else []

-- ---- over numbers: the seal's number times q lies in the interval
pub ceil_from : (a q : ℕ) → 0 < q → a ≤ (a + (q - 1)) / q * q
ceil_from a q h = let m : a + (q - 1) < (a + (q - 1)) / q * q + q = lt-div-mul-add h in omega arith

pub ceil_below : (a q : ℕ) → 0 < q → (a + (q - 1)) / q * q < a + q
ceil_below a q h = let m : (a + (q - 1)) / q * q ≤ a + (q - 1) = div-mul-le_self (a + (q - 1)) q in omega arith

-- unless the interval ends before the next multiple of q, the whole next part is in it
room_above : (a r q : ℕ) → 0 < q → q ≤ r → (a + r) / q ≢ (a + (q - 1)) / q → ((a + (q - 1)) / q + 1) * q ≤ a + r
room_above a r q h hr ne =
    let c : ℕ = (a + (q - 1)) / q in
    let low : c ≤ (a + r) / q = (le-div_iff_mul-le h).1 (omega (arith, ceil_below a q h)) in
    let next : c + 1 ≤ (a + r) / q = omega (arith, low, ne) in
    (le-div_iff_mul-le h).0 next

-- after a step the range is not the start's
less_than_start : (w s : ℕ) (e : Step) (r : Run) → IsSizes w s → IsStep w e → IsInterval w s r → (narrowed_by w s e r).range + 1 < 2 ^ s
less_than_start w s e r z h v =
    let f : Facts w s = facts w s z in
    by_growth w s (cut e r) (λ c. c.range + 1 < 2 ^ s)
    (λ small.
    let m : suc (scale e r * e.p) * 2 ^ w ≤ 2 ^ (s - w) * 2 ^ w = mul-le-mul_right (2 ^ w) small in
    omega (arith, m, f.whole, f.base))
    (λ large.
    let N : ℕ = 2 ^ e.precision in
    let M : ℕ = 2 ^ (s - w - e.precision) * 2 ^ w in
    let whole : 2 ^ s ≡ M * N = whole_divides w s e z h in
    let two : 2 ≤ N = pow_le 1 e.precision h.some_bits in
    let under : r.range / N * N < M * N = omega (arith, whole, div-mul-le_self r.range N, v.fits) in
    let fewer : r.range / N < M = lt_of_mul-lt-mul_right N under in
    let next : suc (r.range / N) * N ≤ M * N = mul-le-mul_right N fewer in
    let part : scale e r * e.p ≤ r.range / N * N = mul-le-mul_left (r.range / N) (omega (arith, h.inside)) in
    omega (arith, next, whole, two, part))

-- the number of sealed words
pub seal_point : (w s : ℕ) (r : Run) (rest : List ℕ) → IsSizes w s → IsInterval w s r →
    number_read w s (fixed_digits (2 ^ w) (suc r.moves) (seal_number w s r) ++ rest) r.moves ≡ seal_number w s r * 2 ^ (s - w) + number_of_first (2 ^ w) (s / w - 1) rest
seal_point w s r rest z v =
    let f : Facts w s = facts w s z in
    let b : ℕ = 2 ^ w in
    let q : ℕ = 2 ^ (s - w) in
    let n : ℕ = suc r.moves in
    let c : ℕ = seal_number w s r in
    let low : c * q < r.low + q = ceil_below r.low q (pow_pos (s - w)) in
    let top : c * q < b ^ n * q =
    rw (pow-suc b r.moves) (let m : r.low + r.range < q * b * b ^ r.moves = rw (f.whole) at v.inside in omega (arith, m, low, v.least)) in
    let small : c < b ^ n = lt_of_mul-lt-mul_right q top in
    let len : length (fixed_digits b n c) ≡ n = fixed-length b n c in
    let front : number_of_first b n (fixed_digits b n c) ≡ c = number-fixed_digits b n c (pow_pos w) small in
    let words : r.moves + s / w ≡ suc r.moves + (s / w - 1) = omega (arith, f.two) in
    let all = number_after b n (s / w - 1) c (fixed_digits b n c) rest len front in
    rw (words) (all ∙ ap (λ x. c * x + number_of_first b (s / w - 1) rest) (sym f.last))

-- zeros are no number
pub number_zeros : (b j : ℕ) (ws : List ℕ) → ((i : ℕ) → get_or ws i 0 ≡ 0) → number_of_first b j ws ≡ 0
number_zeros b zero ws h = refl
number_zeros b (suc j) ws h = rw (number_zeros b j ws h, h j) (omega arith)

no_words : (i : ℕ) → get_or {A = ℕ} [] i 0 ≡ 0
no_words i = refl

pub zero_word : (i : ℕ) → slice_index (0 ∷ []) i ≡ 0
zero_word zero = refl
zero_word (suc i) = refl

sealed_is : (w s : ℕ) (r : Run) → r.range + 1 < 2 ^ s → sealed w s r ≡ fixed_digits (2 ^ w) (suc r.moves) (seal_number w s r) ++ tail w s r
sealed_is w s r h = rw (ne_eqb r.range (2 ^ s - 1) (λ e. omega arith)) refl

-- what may follow sealed words: nothing, or anything where a state is two words
pub record Follows (w s : ℕ) (rest : List ℕ) : Type 0 where
  pub words : AreWords w rest
  pub allowed : (rest ≡ []) ⊎ (s / w ≡ 2)

after_zero : (w s : ℕ) (rest : List ℕ) → Follows w s rest → number_of_first (2 ^ w) (s / w - 1) (0 ∷ rest) ≡ 0
after_zero w s rest h = elim h.allowed [
  | inl none ↦ rw none (number_zeros (2 ^ w) (s / w - 1) (0 ∷ []) zero_word)
  | inr two ↦ rw two (omega arith)
]

sealed_within : (w s : ℕ) (r : Run) (rest : List ℕ) → IsSizes w s → IsInterval w s r → r.range + 1 < 2 ^ s → Follows w s rest → Within w s (sealed w s r ++ rest) r
sealed_within w s r rest z v h o =
    let f : Facts w s = facts w s z in
    let q : ℕ = 2 ^ (s - w) in
    let c : ℕ = seal_number w s r in
    let ds : List ℕ = fixed_digits (2 ^ w) (suc r.moves) c in
    let from : r.low ≤ c * q = ceil_from r.low q (pow_pos (s - w)) in
    let below : c * q < r.low + q = ceil_below r.low q (pow_pos (s - w)) in
    rw (sealed_is w s r h) (elim (cases_eq ((r.low + r.range) / q) c) [
      | inl e ↦
          let number_read : number_read w s (ds ++ (0 ∷ rest)) r.moves ≡ c * q + 0 = seal_point w s r (0 ∷ rest) z v ∙ ap (λ x. c * q + x) (after_zero w s rest o) in
          let one : tail w s r ≡ 0 ∷ [] = rw (eq-eqb ((r.low + r.range) / q) c e) refl in
          rw (one, append_assoc) (record { from = rw number_read (omega (arith, from)); below = rw number_read (omega (arith, below, v.least)) })
      | inr ne ↦
          let none : tail w s r ≡ [] = rw (ne_eqb ((r.low + r.range) / q) c ne) refl in
          let t : ℕ = number_of_first (2 ^ w) (s / w - 1) rest in
          let number_read : number_read w s (ds ++ rest) r.moves ≡ c * q + t = seal_point w s r rest z v in
          let small : t < q = rw f.last (number_below w (s / w - 1) rest o.words) in
          let room : (c + 1) * q ≤ r.low + r.range = room_above r.low r.range q (pow_pos (s - w)) v.least ne in
          rw (none, append_assoc) (record { from = rw number_read (omega (arith, from)); below = rw number_read (omega (arith, room, small)) })
    ])

pub words-sealed : (w s : ℕ) (r : Run) → AreWords w (sealed w s r)
words-sealed w s r = elim (cases_eq r.range (2 ^ s - 1)) [
  | inl e ↦ rw (eq-eqb r.range (2 ^ s - 1) e) (words-fixed_digits w r.moves (r.low / 2 ^ s))
  | inr ne ↦ rw (ne_eqb r.range (2 ^ s - 1) ne) (words-append w (fixed_digits (2 ^ w) (suc r.moves) (seal_number w s r)) (tail w s r) (words-fixed_digits w (suc r.moves) (seal_number w s r)) words_tail)
]
  where
    words_tail : AreWords w (tail w s r)
    words_tail = elim (cases_eq ((r.low + r.range) / 2 ^ (s - w)) (seal_number w s r)) [
      | inl e ↦ rw (eq-eqb ((r.low + r.range) / 2 ^ (s - w)) (seal_number w s r) e) (pow_pos w, tt)
      | inr ne ↦ rw (ne_eqb ((r.low + r.range) / 2 ^ (s - w)) (seal_number w s r) ne) tt
    ]

-- after one step and more the range stays below the start's
pub less_after : (w s : ℕ) (e : Step) (es : List Step) (r : Run) → IsSizes w s → AreSteps w (e ∷ es) → IsInterval w s r → (run w s (e ∷ es) r).range + 1 < 2 ^ s
less_after w s e [] r z hs v = less_than_start w s e r z hs.0 v
less_after w s e (d ∷ es) r z hs v = less_after w s d es (narrowed_by w s e r) z hs.1 (valid_cut w s e r z hs.0 v)

pub sealed_reads : (w s : ℕ) (es : List Step) (rest : List ℕ) → IsSizes w s → AreSteps w es → Follows w s rest →
    ReadAs w s (sealed w s (run w s es (initial s)) ++ rest) es (initial s)
sealed_reads w s [] rest z hs o = tt
sealed_reads w s (e ∷ es) rest z hs o =
    let r : Run = run w s (e ∷ es) (initial s) in
    let v : IsInterval w s r = valid_run w s (e ∷ es) (initial s) z hs (valid_start w s z) in
    let i : Within w s (sealed w s r ++ rest) r = sealed_within w s r rest z v (less_after w s e es (initial s) z hs (valid_start w s z)) o in
    (reads_run w s (sealed w s r ++ rest) z (words-append w (sealed w s r) rest (words-sealed w s r) o.words) (e ∷ es) (initial s) hs (valid_start w s z) i).0

pub sealed_reads_alone : (w s : ℕ) (es : List Step) → IsSizes w s → AreSteps w es → ReadAs w s (sealed w s (run w s es (initial s))) es (initial s)
sealed_reads_alone w s es z hs = rw append-nil at (sealed_reads w s es [] z hs (record { words = tt; allowed = inl refl }))

pub sealed_reads_followed : (w s : ℕ) (es : List Step) (rest : List ℕ) → IsSizes w s → s / w ≡ 2 → AreSteps w es → AreWords w rest →
    ReadAs w s (sealed w s (run w s es (initial s)) ++ rest) es (initial s)
sealed_reads_followed w s es rest z two hs words = sealed_reads w s es rest z hs (record { words = words; allowed = inr two })
