-- A range encoder above other words does the same as one above none: the words below are a multiple that a step carries
-- along. Lists of words have the last word first.
use Rattle.std.proofs.Common.{◌≡◌, ℕ, zero, suc, ◌+◌, ◌-◌, ◌*◌, ◌/◌, ◌%◌, ◌^◌, ◌<◌, ◌≤◌, ◌==◌, if◌then◌else◌, List, [], ◌∷◌, ◌++◌, length, refl, sym, ap, ◌∙◌, inl, inr, arith, pow_pos, append_assoc, append-nil, length-append, eq-eqb, ne_eqb, div-lt_iff_lt-mul, mul-le-mul_right}
use native.Mathlib.Nat.{pow-suc, pow-zero, add-mul-div_right, add-mul-mod_self_right}
use Rattle.std.specs.Prelude.{reverse}
use Rattle.std.proofs.lemmas.Bool.{cases_eq}
use Rattle.constriction_base.specs.Steps.{Step, AreWords}
use Rattle.constriction_base.specs.Digits.{fixed_digits}
use Rattle.constriction_queue.specs.Range.{Run, cut, grown, narrowed_by, sealed, seal_number}
use Rattle.constriction_queue.specs.Encoder.{number_of, run_of, repeated_words}
use Rattle.constriction_base.specs.Models.{Item}
use Rattle.constriction_queue.specs.Symbols.{NarrowsAll}
use Rattle.constriction_base.proofs.Guards.{fixed-length}
use Rattle.constriction_base.proofs.Heads.{pow-split}
use Rattle.constriction_queue.proofs.Runs.{same_run}
use Rattle.constriction_queue.proofs.Seals.{digits_of_words, words_held_fit}
use Rattle.constriction_queue.proofs.Carry.{carry_held, length-held}
use Rattle.constriction_queue.proofs.Narrowing.{by_growth, moved, grown_small, grown_large}
use Rattle.constriction_queue.proofs.Below.{number_below}

-- the run behind k words more, whose number is n
abbrev behind : ℕ → ℕ → ℕ → ℕ → Run → Run
behind w s n k r = record { low = n * (2 ^ w) ^ r.moves * 2 ^ s + r.low; range = r.range; moves = r.moves + k }

number_of-append : (b : ℕ) (ws rest : List ℕ) → number_of b (ws ++ rest) ≡ number_of b rest * b ^ length ws + number_of b ws
number_of-append b [] rest = rw (pow-zero b) (omega arith)
number_of-append b (x ∷ ws) rest =
    let more = ap (λ n. n * b + x) (number_of-append b ws rest) in
    more ∙ rw (pow-suc b (length ws)) (omega arith)

-- the run of words above others
pub run_behind : (w s : ℕ) (ws rest : List ℕ) (lower range : ℕ)
    → run_of w s (ws ++ rest) lower range ≡ behind w s (number_of (2 ^ w) rest) (length rest) (run_of w s ws lower range)
run_behind w s ws rest lower range =
    same_run _ _ (rw (number_of-append (2 ^ w) ws rest) (omega arith)) refl (length-append ws rest)

moved_behind : (w s n k : ℕ) (r : Run) → moved w (behind w s n k r) ≡ behind w s n k (moved w r)
moved_behind w s n k r = same_run _ _ (rw (pow-suc (2 ^ w) r.moves) (omega arith)) refl (omega arith)

grown_behind : (w s n k : ℕ) (r : Run) → grown w s (behind w s n k r) ≡ behind w s n k (grown w s r)
grown_behind w s n k r =
    by_growth w s r (λ g. grown w s (behind w s n k r) ≡ behind w s n k g)
    (λ small. grown_small w s (behind w s n k r) small ∙ moved_behind w s n k r)
    (λ large. grown_large w s (behind w s n k r) large)

-- a step behind words
narrow_behind : (w s n k : ℕ) (e : Step) (r : Run) → narrowed_by w s e (behind w s n k r) ≡ behind w s n k (narrowed_by w s e r)
narrow_behind w s n k e r =
    let same : cut e (behind w s n k r) ≡ behind w s n k (cut e r) = same_run _ _ (omega arith) refl refl in
    ap (λ (c : Run). grown w s c) same ∙ grown_behind w s n k (cut e r)

-- ---- digits
digits_behind : (b m k n x : ℕ) → 0 < b → x < b ^ m → fixed_digits b (m + k) (n * b ^ m + x) ≡ fixed_digits b k n ++ fixed_digits b m x
digits_behind b zero k n x some small =
    let one : b ^ 0 ≡ 1 = pow-zero b in
    let times : n * b ^ 0 ≡ n * 1 = ap (λ y. n * y) one in
    let same : n * b ^ 0 + x ≡ n = omega arith in
    let none : 0 + k ≡ k = omega arith in
    rw (same, none, append-nil) refl
digits_behind b (suc m) k n x some small =
    let power : b ^ suc m ≡ b ^ m * b = pow-suc b m in
    let below : x / b < b ^ m = (div-lt_iff_lt-mul some).1 (rw power at small) in
    let whole : n * b ^ suc m + x ≡ x + n * b ^ m * b = ap (λ y. n * y + x) power ∙ omega arith in
    let high : (n * b ^ suc m + x) / b ≡ n * b ^ m + x / b = ap (λ y. y / b) whole ∙ add-mul-div_right x (n * b ^ m) some ∙ omega arith in
    let low : (n * b ^ suc m + x) % b ≡ x % b = ap (λ y. y % b) whole ∙ add-mul-mod_self_right x (n * b ^ m) b in
    let count : suc m + k ≡ suc (m + k) = omega arith in
    ap (λ c. fixed_digits b c (n * b ^ suc m + x)) count
    ∙ ap (λ y. fixed_digits b (m + k) y ++ ((n * b ^ suc m + x) % b ∷ [])) high
    ∙ ap (λ d. fixed_digits b (m + k) (n * b ^ m + x / b) ++ (d ∷ [])) low
    ∙ ap (λ (ds : List ℕ). ds ++ (x % b ∷ [])) (digits_behind b m k n (x / b) some below)
    ∙ append_assoc (fixed_digits b k n) (fixed_digits b m (x / b)) (x % b ∷ [])

-- the digits of a number above words are those of the words and its own
digits_above : (w m : ℕ) (rest : List ℕ) (x : ℕ) → AreWords w rest → x < (2 ^ w) ^ m
    → fixed_digits (2 ^ w) (m + length rest) (number_of (2 ^ w) rest * (2 ^ w) ^ m + x) ≡ reverse rest ++ fixed_digits (2 ^ w) m x
digits_above w m rest x words small =
    digits_behind (2 ^ w) m (length rest) (number_of (2 ^ w) rest) x (pow_pos w) small ∙ ap (λ (ds : List ℕ). ds ++ fixed_digits (2 ^ w) m x) (digits_of_words w rest words)

same_test : (a u v : ℕ) → ((a + u) == (a + v)) ≡ (u == v)
same_test a u v = elim (cases_eq u v) [
  | inl e ↦ eq-eqb (a + u) (a + v) (omega (arith, e)) ∙ sym (eq-eqb u v e)
  | inr ne ↦ ne_eqb (a + u) (a + v) (λ e. ne (omega (arith, e))) ∙ sym (ne_eqb u v ne)
]

-- ---- a seal behind words
-- a number above the words below is parted as it is alone
parts_behind : (w s n : ℕ) (r : Run) (x : ℕ) → w ≤ s → (n * (2 ^ w) ^ r.moves * 2 ^ s + x) / 2 ^ (s - w) ≡ n * (2 ^ w) ^ suc r.moves + x / 2 ^ (s - w)
parts_behind w s n r x wide =
    let b : ℕ = 2 ^ w in
    let q : ℕ = 2 ^ (s - w) in
    let m : ℕ = r.moves in
    let split : q * b ≡ 2 ^ s = pow-split s w wide in
    let power : b ^ suc m ≡ b ^ m * b = pow-suc b m in
    let carried : n * b ^ m * 2 ^ s + x ≡ x + n * b ^ suc m * q = ap (λ y. n * b ^ m * y + x) (sym split) ∙ rw power (omega arith) in
    ap (λ y. y / q) carried ∙ add-mul-div_right x (n * b ^ suc m) (pow_pos (s - w)) ∙ omega arith

seal_number_behind : (w s n k : ℕ) (r : Run) → w ≤ s → seal_number w s (behind w s n k r) ≡ n * (2 ^ w) ^ suc r.moves + seal_number w s r
seal_number_behind w s n k r wide =
    let q : ℕ = 2 ^ (s - w) in
    let turn : n * (2 ^ w) ^ r.moves * 2 ^ s + r.low + (q - 1) ≡ n * (2 ^ w) ^ r.moves * 2 ^ s + (r.low + (q - 1)) = omega arith in
    ap (λ y. y / q) turn ∙ parts_behind w s n r (r.low + (q - 1)) wide

-- the digits of a run without symbols
start_digits_behind : (w s : ℕ) (rest : List ℕ) (r : Run) → AreWords w rest → r.low < 2 ^ s * (2 ^ w) ^ r.moves
    → fixed_digits (2 ^ w) (r.moves + length rest) ((number_of (2 ^ w) rest * (2 ^ w) ^ r.moves * 2 ^ s + r.low) / 2 ^ s) ≡ reverse rest ++ fixed_digits (2 ^ w) r.moves (r.low / 2 ^ s)
start_digits_behind w s rest r words inside =
    let b : ℕ = 2 ^ w in
    let n : ℕ = number_of b rest in
    let m : ℕ = r.moves in
    let number : (n * b ^ m * 2 ^ s + r.low) / 2 ^ s ≡ n * b ^ m + r.low / 2 ^ s =
    ap (λ y. y / 2 ^ s) (let turn : n * b ^ m * 2 ^ s + r.low ≡ r.low + n * b ^ m * 2 ^ s = omega arith in turn)
    ∙ add-mul-div_right r.low (n * b ^ m) (pow_pos s) ∙ omega arith in
    rw number (digits_above w m rest (r.low / 2 ^ s) words ((div-lt_iff_lt-mul (pow_pos s)).1 (omega (arith, inside))))

-- those of a seal's number
seal_digits_behind : (w s : ℕ) (rest : List ℕ) (r : Run) → w ≤ s → AreWords w rest → 2 ^ (s - w) ≤ r.range → r.low + r.range < 2 ^ s * (2 ^ w) ^ r.moves
    → fixed_digits (2 ^ w) (suc (r.moves + length rest)) (number_of (2 ^ w) rest * (2 ^ w) ^ suc r.moves + seal_number w s r) ≡ reverse rest ++ fixed_digits (2 ^ w) (suc r.moves) (seal_number w s r)
seal_digits_behind w s rest r wide words least inside =
    let b : ℕ = 2 ^ w in
    let q : ℕ = 2 ^ (s - w) in
    let m : ℕ = r.moves in
    let c : ℕ = seal_number w s r in
    let split : q * b ≡ 2 ^ s = pow-split s w wide in
    let power : b ^ suc m ≡ b ^ m * b = pow-suc b m in
    let room : 2 ^ s * b ^ m ≡ b ^ suc m * q = ap (λ y. y * b ^ m) (sym split) ∙ rw power (omega arith) in
    let below : c < b ^ suc m = (div-lt_iff_lt-mul (pow_pos (s - w))).1 (omega (arith, inside, least, room)) in
    let count : suc (m + length rest) ≡ suc m + length rest = omega arith in
    ap (λ j. fixed_digits b j (number_of b rest * b ^ suc m + c)) count ∙ digits_above w (suc m) rest c words below

-- a run of which the words have room for its interval
pub sealed_behind : (w s : ℕ) (rest : List ℕ) (r : Run) → w ≤ s → AreWords w rest
    → 2 ^ (s - w) ≤ r.range → r.low + r.range < 2 ^ s * (2 ^ w) ^ r.moves
    → sealed w s (behind w s (number_of (2 ^ w) rest) (length rest) r) ≡ reverse rest ++ sealed w s r
sealed_behind w s rest r wide words least inside =
    let b : ℕ = 2 ^ w in
    let q : ℕ = 2 ^ (s - w) in
    let n : ℕ = number_of b rest in
    let k : ℕ = length rest in
    let m : ℕ = r.moves in
    elim (cases_eq r.range (2 ^ s - 1)) [
      | inl e ↦ rw (eq-eqb r.range (2 ^ s - 1) e) (start_digits_behind w s rest r words (omega (arith, inside)))
      | inr ne ↦
          let c : ℕ = seal_number w s r in
          let point : (n * b ^ m * 2 ^ s + r.low + (q - 1)) / q ≡ n * b ^ suc m + c = seal_number_behind w s n k r wide in
          let end : (n * b ^ m * 2 ^ s + r.low + r.range) / q ≡ n * b ^ suc m + (r.low + r.range) / q =
          ap (λ y. y / q) (let turn : n * b ^ m * 2 ^ s + r.low + r.range ≡ n * b ^ m * 2 ^ s + (r.low + r.range) = omega arith in turn) ∙ parts_behind w s n r (r.low + r.range) wide in
          let test = same_test (n * b ^ suc m) ((r.low + r.range) / q) c in
          let tail : List ℕ = if (r.low + r.range) / q == c then 0 ∷ [] else [] in
          let whole : sealed w s (behind w s n k r) ≡ fixed_digits b (suc (m + k)) (n * b ^ suc m + c) ++ tail = rw (ne_eqb r.range (2 ^ s - 1) ne, point, end, test) refl in
          let own : sealed w s r ≡ fixed_digits b (suc m) c ++ tail = rw (ne_eqb r.range (2 ^ s - 1) ne) refl in
          whole ∙ ap (λ (ds : List ℕ). ds ++ tail) (seal_digits_behind w s rest r wide words least inside)
          ∙ append_assoc (reverse rest) (fixed_digits b (suc m) c) tail ∙ ap (λ (ds : List ℕ). reverse rest ++ ds) (sym own)
    ]

-- ---- how many words
-- the words of a seal behind words that were held are as many more
pub sealed_length : (w s : ℕ) (held : List ℕ) (lower range : ℕ) → w ≤ s → (range ≡ 2 ^ s - 1 → ⊥)
    → length (sealed w s (run_of w s held lower range)) ≡ length held + length (sealed w s (run_of w s [] lower range))
sealed_length w s held lower range wide ne =
    let b : ℕ = 2 ^ w in
    let q : ℕ = 2 ^ (s - w) in
    let n : ℕ = number_of b held in
    let k : ℕ = length held in
    let r : Run = run_of w s [] lower range in
    let m : ℕ = r.moves in
    let c : ℕ = seal_number w s r in
    let point : (n * b ^ m * 2 ^ s + r.low + (q - 1)) / q ≡ n * b ^ suc m + c = seal_number_behind w s n k r wide in
    let end : (n * b ^ m * 2 ^ s + r.low + r.range) / q ≡ n * b ^ suc m + (r.low + r.range) / q =
    ap (λ y. y / q) (let turn : n * b ^ m * 2 ^ s + r.low + r.range ≡ n * b ^ m * 2 ^ s + (r.low + r.range) = omega arith in turn) ∙ parts_behind w s n r (r.low + r.range) wide in
    let test = same_test (n * b ^ suc m) ((r.low + r.range) / q) c in
    let tail : List ℕ = if (r.low + r.range) / q == c then 0 ∷ [] else [] in
    let whole : sealed w s (behind w s n k r) ≡ fixed_digits b (suc (m + k)) (n * b ^ suc m + c) ++ tail = rw (ne_eqb r.range (2 ^ s - 1) ne, point, end, test) refl in
    let own : sealed w s r ≡ fixed_digits b (suc m) c ++ tail = rw (ne_eqb r.range (2 ^ s - 1) ne) refl in
    let all = ap (λ (r : Run). length (sealed w s r)) (run_behind w s [] held lower range) ∙ ap length whole ∙ length-append (fixed_digits b (suc (m + k)) (n * b ^ suc m + c)) tail in
    let alone = ap length own ∙ length-append (fixed_digits b (suc m) c) tail in
    omega (arith, all, alone, fixed-length b (suc (m + k)) (n * b ^ suc m + c), fixed-length b (suc m) c)

-- ---- what an encoder holds leaves room for its interval

pub held_inside : (w s count first lower range : ℕ) → first + 1 < 2 ^ w → lower < 2 ^ s → range < 2 ^ s
    → number_of (2 ^ w) (repeated_words (2 ^ w - 1) count first) * 2 ^ s + lower + range < 2 ^ s * (2 ^ w) ^ length (repeated_words (2 ^ w - 1) count first)
held_inside w s count first lower range less lower_fits range_fits =
    let b : ℕ = 2 ^ w in
    let ones : List ℕ = repeated_words (b - 1) count first in
    let zeros : List ℕ = repeated_words 0 count (first + 1) ++ [] in
    let below : number_of b zeros < b ^ length zeros = number_below w zeros (words_held_fit w 0 count (first + 1) [] (pow_pos w) less tt) in
    let more : number_of b (ones ++ []) + 1 < b ^ length (ones ++ []) = rw (← carry_held b count first [] (pow_pos w), ← length-held 0 (b - 1) count (first + 1) first []) below in
    let room : number_of b ones + 2 ≤ b ^ length ones = omega (arith, rw (append-nil ones) at more) in
    let times : (number_of b ones + 2) * 2 ^ s ≤ b ^ length ones * 2 ^ s = mul-le-mul_right (2 ^ s) room in
    omega (arith, times, lower_fits, range_fits)

-- ---- encodes behind words
narrows_behind : {S : Type 0} (w s n k : ℕ) (items : List (Item S)) (old new : Run) → NarrowsAll w s items old new → NarrowsAll w s items (behind w s n k old) (behind w s n k new)
narrows_behind w s n k [] old new all = ap (behind w s n k) all
narrows_behind w s n k (item ∷ items) old new (between, (left, p, has, is), all) =
    let e : Step = record { precision = item.model.precision; left = left; p = p } in
    (behind w s n k between, (left, p, has, ap (behind w s n k) is ∙ sym (narrow_behind w s n k e old)), narrows_behind w s n k items between new all)

-- the same by words: an encoder over no words, and what it holds and wrote then
pub narrows_above : {S : Type 0} (w s : ℕ) (items : List (Item S)) (held kept written below : List ℕ) (lower range new_lower new_range : ℕ)
    → NarrowsAll w s items (run_of w s held lower range) (run_of w s (kept ++ written) new_lower new_range)
    → NarrowsAll w s items (run_of w s (held ++ below) lower range) (run_of w s (kept ++ (written ++ below)) new_lower new_range)
narrows_above w s items held kept written below lower range new_lower new_range all =
    rw (run_behind w s held below lower range, ← append_assoc kept written below, run_behind w s (kept ++ written) below new_lower new_range)
    (narrows_behind w s (number_of (2 ^ w) below) (length below) items (run_of w s held lower range) (run_of w s (kept ++ written) new_lower new_range) all)
