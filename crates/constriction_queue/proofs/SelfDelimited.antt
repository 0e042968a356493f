-- Words that hold whatever follows: they are read as the steps, no smaller number of zero words does that, and where a state is two
-- words they are the sealed words.
use Rattle.std.proofs.Common.{◌≡◌, ℕ, zero, suc, ◌+◌, ◌-◌, ◌*◌, ◌/◌, ◌^◌, ◌<◌, ◌≤◌, List, [], ◌∷◌, ◌++◌, get_or, length, replicate, refl, sym, ap, ◌∙◌, inl, inr, arith, pow_pos, append_assoc, eq-eqb, ne_eqb, div-add-mod', length-append}
use native.Mathlib.Nat.{pow-suc, pow-zero, lt-div-mul-add}
use Rattle.std.proofs.lemmas.Bool.{cases_lt}
use Rattle.std.proofs.lemmas.List.{length-replicate}
use Rattle.constriction_base.specs.Digits.{fixed_digits}
use Rattle.constriction_base.specs.Steps.{Step, AreSteps, AreWords, IsSizes}
use Rattle.constriction_base.proofs.Sizes.{pow-mul}
use Rattle.constriction_queue.specs.Range.{Run, IsInterval, ReadAs, Within, number_of_first, number_read, run, seal_number, sealed, initial}
use Rattle.constriction_queue.specs.SelfDelimiting.{AreEnough, AreLeast, SelfDelimits}
use Rattle.constriction_queue.proofs.Narrowing.{valid_run, valid_start}
use Rattle.constriction_queue.proofs.ReadingRuns.{reads_run}
use Rattle.constriction_queue.proofs.SealedRuns.{ceil_below, ceil_from, less_after, number_after, number_zeros, seal_point}
use Rattle.constriction_queue.proofs.SelfSealed.{ends_by_gap}
use Rattle.constriction_queue.proofs.WordsRead.{number_below}
use Rattle.constriction_base.proofs.WordLists.{words-append, words-fixed_digits}
use Rattle.constriction_base.proofs.Guards.{fixed-length}

-- ---- zero words
pub words_same : (w k x : ℕ) → x < 2 ^ w → AreWords w (replicate k x)
words_same w zero x fits = tt
words_same w (suc k) x fits = (fits, words_same w k x fits)

zero_at : (t i : ℕ) → get_or (replicate {A = ℕ} t 0) i 0 ≡ 0
zero_at zero i = refl
zero_at (suc t) zero = refl
zero_at (suc t) (suc i) = zero_at t i

-- zero words in front leave fewer
number_behind_zeros : (b m t : ℕ) (rest : List ℕ) → t ≤ m → number_of_first b m (replicate t 0 ++ rest) ≡ number_of_first b (m - t) rest
number_behind_zeros b m t rest h =
    let parts : m ≡ t + (m - t) = omega arith in
    ap (λ n. number_of_first b n (replicate t 0 ++ rest)) parts
    ∙ number_after b t (m - t) 0 (replicate t 0) rest (length-replicate t 0) (number_zeros b t (replicate t 0) (zero_at t)) ∙ omega arith

-- so many zero words leave so many bits
left_of : (w s t : ℕ) → IsSizes w s → t < s / w → 2 ^ (s - w - t * w) ≡ (2 ^ w) ^ (s / w - 1 - t)
left_of w s t z few =
    let words : s / w * w ≡ s = omega (arith, z.whole, div-add-mod' s w) in
    let j : ℕ = s / w - 1 - t in
    let count : s / w ≡ j + 1 + t = omega arith in
    let times : s / w * w ≡ (j + 1 + t) * w = ap (λ n. n * w) count in
    let bits : s - w - t * w ≡ j * w = omega (arith, words, times) in
    ap (λ n. 2 ^ n) bits ∙ sym (pow-mul w j)

-- the number that is read at the end of the run, over such words
number_at : (w s t : ℕ) (r : Run) (rest : List ℕ) → IsSizes w s → IsInterval w s r → t < s / w
    → number_read w s ((fixed_digits (2 ^ w) (suc r.moves) (seal_number w s r) ++ replicate t 0) ++ rest) r.moves
    ≡ seal_number w s r * 2 ^ (s - w) + number_of_first (2 ^ w) (s / w - 1 - t) rest
number_at w s t r rest z v few =
    rw append_assoc (seal_point w s r (replicate t 0 ++ rest) z v
    ∙ ap (λ n. seal_number w s r * 2 ^ (s - w) + n) (number_behind_zeros (2 ^ w) (s / w - 1) t rest (omega (arith, few))))

-- ---- whatever follows
pub enough_within : (w s t : ℕ) (r : Run) (rest : List ℕ) → IsSizes w s → IsInterval w s r → t < s / w → AreEnough w s r t → AreWords w rest
    → Within w s ((fixed_digits (2 ^ w) (suc r.moves) (seal_number w s r) ++ replicate t 0) ++ rest) r
enough_within w s t r rest z v few enough words =
    let q : ℕ = 2 ^ (s - w) in
    let read = number_at w s t r rest z v few in
    let from : r.low ≤ seal_number w s r * q = ceil_from r.low q (pow_pos (s - w)) in
    let small : number_of_first (2 ^ w) (s / w - 1 - t) rest < 2 ^ (s - w - t * w) = rw (left_of w s t z few) (number_below w (s / w - 1 - t) rest words) in
    record { from = rw read (omega (arith, from)); below = rw read (omega (arith, enough, small)) }

-- ---- fewer zero words
ones_at : (n x i : ℕ) → i < n → get_or (replicate {A = ℕ} n x) i 0 ≡ x
ones_at zero x i h = absurd (omega arith)
ones_at (suc n) x zero h = refl
ones_at (suc n) x (suc i) h = ones_at n x i (omega arith)

number_ones : (b n j : ℕ) → 0 < b → j ≤ n → number_of_first b j (replicate n (b - 1)) + 1 ≡ b ^ j
number_ones b n zero hb h = let one : b ^ 0 ≡ 1 = pow-zero b in omega (arith, one)
number_ones b n (suc j) hb h =
    let before = number_ones b n j hb (omega (arith, h)) in
    let x : ℕ = number_of_first b j (replicate n (b - 1)) in
    let up : b ^ suc j ≡ b ^ j * b = pow-suc b j in
    let times : (x + 1) * b ≡ b ^ j * b = ap (λ n. n * b) before in
    rw (ones_at n (b - 1) j (omega (arith, h))) (omega (arith, up, times, hb))

-- words behind so many zero words with which the number that is read isn't below the interval's end
abbrev pub ones_behind : ℕ → ℕ → ℕ → List ℕ
ones_behind w s k = replicate (s / w - 1 - k) (2 ^ w - 1)

pub words_ones : (w s k : ℕ) → AreWords w (ones_behind w s k)
words_ones w s k = words_same w (s / w - 1 - k) (2 ^ w - 1) (omega (arith, pow_pos w))

pub fewer_outside : (w s k : ℕ) (r : Run) → IsSizes w s → IsInterval w s r → k < s / w → (AreEnough w s r k → ⊥)
    → Within w s ((fixed_digits (2 ^ w) (suc r.moves) (seal_number w s r) ++ replicate k 0) ++ ones_behind w s k) r → ⊥
fewer_outside w s k r z v few never i =
    let j : ℕ = s / w - 1 - k in
    let read = number_at w s k r (ones_behind w s k) z v few in
    let top : number_of_first (2 ^ w) j (ones_behind w s k) + 1 ≡ 2 ^ (s - w - k * w) = number_ones (2 ^ w) j j (pow_pos w) (omega arith) ∙ sym (left_of w s k z few) in
    never (omega (arith, i.below, read, top))

-- ---- what they are
pub one_least : (w s : ℕ) (r : Run) (t u : ℕ) → AreLeast w s r t → AreLeast w s r u → t ≡ u
one_least w s r t u a b = elim (cases_lt t u) [
  | inl less ↦ absurd (b.least t less a.enough)
  | inr more ↦ elim (cases_lt u t) [
    | inl less ↦ absurd (a.least u less b.enough)
    | inr same ↦ omega arith
  ]
]

pub one_list : (w s : ℕ) (r : Run) (xs ys : List ℕ) → SelfDelimits w s r xs → SelfDelimits w s r ys → xs ≡ ys
one_list w s r xs ys (inl a) (inl b) = a.1 ∙ sym b.1
one_list w s r xs ys (inl a) (inr b) = absurd (omega (arith, a.0, b.0))
one_list w s r xs ys (inr a) (inl b) = absurd (omega (arith, a.0, b.0))
one_list w s r xs ys (inr (ra, (t, ta, xs_is))) (inr (rb, (u, ub, ys_is))) =
    xs_is ∙ ap (λ (n : ℕ). fixed_digits (2 ^ w) (suc r.moves) (seal_number w s r) ++ replicate n 0) (one_least w s r t u ta ub) ∙ sym ys_is

pub self_words : (w s : ℕ) (r : Run) (words : List ℕ) → SelfDelimits w s r words → AreWords w words
self_words w s r words (inl (whole, is)) = rw is (words-fixed_digits w r.moves (r.low / 2 ^ s))
self_words w s r words (inr (coded, (t, least, is))) =
    rw is (words-append w (fixed_digits (2 ^ w) (suc r.moves) (seal_number w s r)) (replicate t 0) (words-fixed_digits w (suc r.moves) (seal_number w s r)) (words_same w t 0 (pow_pos w)))

pub length_self : (w s : ℕ) (r : Run) (words : List ℕ) → IsSizes w s → SelfDelimits w s r words → length words ≤ r.moves + s / w
length_self w s r words z (inl (whole, is)) = rw is (omega (arith, fixed-length (2 ^ w) r.moves (r.low / 2 ^ s)))
length_self w s r words z (inr (coded, (t, least, is))) =
    let ds : List ℕ = fixed_digits (2 ^ w) (suc r.moves) (seal_number w s r) in
    rw is (omega (arith, length-append ds (replicate t 0), length-replicate {A = ℕ} t 0, fixed-length (2 ^ w) (suc r.moves) (seal_number w s r), least.few))

-- ---- where a state is two words
as_sealed : (w s : ℕ) (r : Run) (t : ℕ) → s / w ≡ 2 → 2 ^ (s - w) ≤ r.range → r.range + 1 < 2 ^ s → AreLeast w s r t
    → fixed_digits (2 ^ w) (suc r.moves) (seal_number w s r) ++ replicate t 0 ≡ sealed w s r
as_sealed w s r zero two long coded least =
    let q : ℕ = 2 ^ (s - w) in
    let c : ℕ = seal_number w s r in
    let none : s - w - 0 * w ≡ s - w = omega arith in
    let enough : c * q + q ≤ r.low + r.range = rw none at least.enough in
    let other : (r.low + r.range) / q ≡ c → ⊥ = λ e. let next : r.low + r.range < (r.low + r.range) / q * q + q = lt-div-mul-add (pow_pos (s - w)) in let times : (r.low + r.range) / q * q ≡ c * q = ap (λ x. x * q) e in omega (arith, next, times, enough) in
    rw (ne_eqb r.range (2 ^ s - 1) (λ e. omega (arith, coded, e)), ne_eqb ((r.low + r.range) / q) c other) refl
as_sealed w s r (suc zero) two long coded least =
    let q : ℕ = 2 ^ (s - w) in
    let c : ℕ = seal_number w s r in
    let none : s - w - 0 * w ≡ s - w = omega arith in
    let low : c * q < r.low + q = ceil_below r.low q (pow_pos (s - w)) in
    let short : c * q + q ≤ r.low + r.range → ⊥ = λ h. least.least 0 (omega arith) (rw none h) in
    let under : r.low + r.range < c * q + q = elim (cases_lt (r.low + r.range) (c * q + q)) [ inl less ↦ less | inr more ↦ absurd (short more) ] in
    let gap : ℕ = r.low + r.range - c * q in
    let total : c * q + gap ≡ r.low + r.range = omega (arith, low, long) in
    let same : (r.low + r.range) / q ≡ c = (ends_by_gap (r.low + r.range) q c gap (pow_pos (s - w)) total).1 (omega (arith, under)) in
    rw (ne_eqb r.range (2 ^ s - 1) (λ e. omega (arith, coded, e)), eq-eqb ((r.low + r.range) / q) c same) refl
as_sealed w s r (suc (suc t)) two long coded least = absurd (omega (arith, least.few, two))

pub self_sealed : (w s : ℕ) (r : Run) (words : List ℕ) → s / w ≡ 2 → IsInterval w s r → SelfDelimits w s r words → words ≡ sealed w s r
self_sealed w s r words two v (inl (whole, is)) = is ∙ sym (rw (eq-eqb r.range (2 ^ s - 1) (omega (arith, whole))) refl)
self_sealed w s r words two v (inr (coded, (t, least, is))) = is ∙ as_sealed w s r t two v.least coded least

-- ---- steps
-- words of a run behind which any may follow: it lies in it, where a symbol was coded
pub self_within : (w s : ℕ) (r : Run) (words rest : List ℕ) → IsSizes w s → IsInterval w s r → r.range + 1 < 2 ^ s → SelfDelimits w s r words → AreWords w rest
    → Within w s (words ++ rest) r
self_within w s r words rest z v coded (inl (whole, is)) fit = absurd (omega (arith, coded, whole))
self_within w s r words rest z v coded (inr (more, (t, least, is))) fit = rw is (enough_within w s t r rest z v least.few least.enough fit)

pub self_reads : (w s : ℕ) (es : List Step) (words rest : List ℕ) → IsSizes w s → AreSteps w es → SelfDelimits w s (run w s es (initial s)) words → AreWords w rest
    → ReadAs w s (words ++ rest) es (initial s)
self_reads w s [] words rest z hs h fit = tt
self_reads w s (e ∷ es) words rest z hs h fit =
    let r : Run = run w s (e ∷ es) (initial s) in
    let v : IsInterval w s r = valid_run w s (e ∷ es) (initial s) z hs (valid_start w s z) in
    let i : Within w s (words ++ rest) r = self_within w s r words rest z v (less_after w s e es (initial s) z hs (valid_start w s z)) h fit in
    (reads_run w s (words ++ rest) z (words-append w words rest (self_words w s r words h) fit) (e ∷ es) (initial s) hs (valid_start w s z) i).0

-- where they are followed by nothing, the number that is read is a multiple of 2 ^ (s - w), the least in the interval
pub number_at_end : (w s : ℕ) (r : Run) (words : List ℕ) → IsSizes w s → IsInterval w s r → r.range + 1 < 2 ^ s → SelfDelimits w s r words
    → number_read w s words r.moves ≡ seal_number w s r * 2 ^ (s - w)
number_at_end w s r words z v coded (inl (whole, is)) = absurd (omega (arith, coded, whole))
number_at_end w s r words z v coded (inr (more, (t, least, is))) =
    rw is (seal_point w s r (replicate t 0) z v ∙ ap (λ n. seal_number w s r * 2 ^ (s - w) + n) (number_zeros (2 ^ w) (s / w - 1) (replicate t 0) (zero_at t)) ∙ omega arith)
