-- The run of a part of an interval, and of a shifted one, as machine numbers have them.
use Rattle.std.proofs.Common.{◌≡◌, ◌↔◌, ℕ, ◌+◌, ◌-◌, ◌*◌, ◌/◌, ◌%◌, ◌^◌, ◌≤◌, ◌<◌, Bool, true, false, IsTrue, if◌then◌else◌, List, ◌∷◌, ◌++◌, refl, ◌∙◌, sym, arith, inl, inr, lt-ltb, le-ltb, pow_pos, mod-eq_of_lt, div-lt_iff_lt-mul, lit<}
use Rattle.std.proofs.Math.Nat.{pow-le-pow_right}
use Rattle.std.proofs.lemmas.Bool.{cases_lt}
use Rattle.constriction_queue.specs.Range.{Run, cut, grown}
use Rattle.constriction_queue.specs.Encoder.{number_of, repeated_words, run_of}
use Rattle.constriction_base.proofs.Heads.{pow-split}
use Rattle.constriction_queue.proofs.Runs.{same_run, part_inside}
use Rattle.constriction_queue.proofs.Carry.{inverted_stays, not_less, less, carry_held, length-held, one_more_held, shift_number, top_ones, shifted_below, not_greatest, over_stays, first_not_ones}

-- ---- a part

-- the part of an interval that doesn't reach over the end
pub normal_part : (s n left p l r z l1 r1 : ℕ) → z ≡ r / n → l1 ≡ (l + z * left) % 2 ^ s → r1 ≡ z * p → left + p ≤ n → l + r < 2 ^ s
    → (l1 ≡ l + z * left) × (l1 + r1 < 2 ^ s)
normal_part s n left p l r z l1 r1 z_is l1_is r1_is total below =
    let part = rw (← z_is) at (part_inside r n left p total) in
    let fits : l + z * left < 2 ^ s = omega arith in
    let same = l1_is ∙ mod-eq_of_lt fits in
    (same, omega arith)

-- the part of one that does, where it does so too
pub over_part : (s n left p l r z l1 r1 : ℕ) → z ≡ r / n → l1 ≡ (l + z * left) % 2 ^ s → r1 ≡ z * p → left + p ≤ n → l < 2 ^ s → r < 2 ^ s
    → 2 ^ s ≤ l1 + r1 → l1 ≡ l + z * left
over_part s n left p l r z l1 r1 z_is l1_is r1_is total l_fits r_fits over =
    let part = rw (← z_is) at (part_inside r n left p total) in
    l1_is ∙ mod-eq_of_lt (inverted_stays l (z * left) r1 r (2 ^ s) l_fits (omega arith) r_fits (rw (← l1_is) over))

-- a part is no longer than the whole
pub part_within : (n left p r z r1 : ℕ) → z ≡ r / n → r1 ≡ z * p → left + p ≤ n → r1 ≤ r
part_within n left p r z r1 z_is r1_is total =
    let part = rw (← z_is) at (part_inside r n left p total) in
    omega arith

-- and so is what lies before it
pub before_fits : (s n left p r z : ℕ) → z ≡ r / n → left + p ≤ n → r < 2 ^ s → z * left < 2 ^ s
before_fits s n left p r z z_is total fits =
    let part = rw (← z_is) at (part_inside r n left p total) in
    omega arith

-- an interval reaches over the end or doesn't
pub not_over : (s l r : ℕ) (over : Bool) → over ≡ false → (IsTrue over ↔ (2 ^ s ≤ l + r)) → l + r < 2 ^ s
not_over s l r over is says = elim (cases_lt (l + r) (2 ^ s)) [
  | inl below ↦ below
  | inr reaches ↦ absurd (let no = says.1 reaches in cc)
]

-- no carry: the words are as they were
pub part_run : (w s P left p l r z l1 r1 : ℕ) (words : List ℕ) → z ≡ r / 2 ^ P → r1 ≡ z * p → l1 ≡ l + z * left
    → run_of w s words l1 r1 ≡ cut (record { precision = P; left = left; p = p }) (run_of w s words l r)
part_run w s P left p l r z l1 r1 words z_is r1_is l1_is =
    same_run _ _ (rw (l1_is, ← z_is) (omega arith)) (rw (r1_is, z_is) refl) refl

-- held words are let go, with a carry exactly where the lower end wrapped
pub released_run : (w s P left p l r z l1 r1 count first : ℕ) (carry : Bool) (held words : List ℕ)
    → z ≡ r / 2 ^ P → l1 ≡ (l + z * left) % 2 ^ s → r1 ≡ z * p → left + p ≤ 2 ^ P → l < 2 ^ s → r < 2 ^ s
    → held ≡ repeated_words (if carry then 0 else 2 ^ w - 1) count (if carry then first + 1 else first)
    → (IsTrue carry ↔ (l1 < l))
    → run_of w s (held ++ words) l1 r1 ≡ cut (record { precision = P; left = left; p = p }) (run_of w s (repeated_words (2 ^ w - 1) count first ++ words) l r)
released_run w s P left p l r z l1 r1 count first true held words z_is l1_is r1_is total l_fits r_fits held_is wrapped =
    let part = rw (← z_is) at (part_inside r (2 ^ P) left p total) in
    let back : l1 + 2 ^ s ≡ l + z * left = rw l1_is (less l (z * left) (2 ^ s) l_fits (omega arith) (rw (← l1_is) (wrapped.0 refl))) in
    let number = carry_held (2 ^ w) count first words (pow_pos w) in
    same_run _ _
    (rw (held_is, number, ← z_is) (omega arith))
    (rw (r1_is, z_is) refl)
    (rw held_is (length-held 0 (2 ^ w - 1) count (first + 1) first words))
released_run w s P left p l r z l1 r1 count first false held words z_is l1_is r1_is total l_fits r_fits held_is wrapped =
    let part = rw (← z_is) at (part_inside r (2 ^ P) left p total) in
    let above : l ≤ l1 = elim (cases_lt l1 l) [
      | inl low ↦ absurd (let no = wrapped.1 low in cc)
      | inr high ↦ high
    ] in
    let same : l1 ≡ l + z * left = l1_is ∙ not_less l (z * left) (2 ^ s) l_fits (omega arith) (rw (← l1_is) above) in
    rw held_is (part_run w s P left p l r z l1 r1 (repeated_words (2 ^ w - 1) count first ++ words) z_is r1_is same)

-- ---- a shift
pub long_run : (w s : ℕ) (r : Run) → 2 ^ (s - w) ≤ r.range → r ≡ grown w s r
long_run w s r h = rw (le-ltb r.range (2 ^ (s - w)) h) refl

-- the top word of a lower end
pub top_is : (w s l : ℕ) → w ≤ s → l < 2 ^ s → l / 2 ^ (s - w) % 2 ^ w ≡ l / 2 ^ (s - w)
top_is w s l wide fits =
    let split = pow-split s w wide in
    mod-eq_of_lt ((div-lt_iff_lt-mul (pow_pos (s - w))).1 (omega arith))

-- the top word leaves the lower end
pub shifted_run : (w s l r t l1 r1 : ℕ) (words : List ℕ) → w ≤ s → l < 2 ^ s → r < 2 ^ (s - w)
    → t ≡ l / 2 ^ (s - w) → l1 ≡ l % 2 ^ (s - w) * 2 ^ w → r1 ≡ r * 2 ^ w
    → run_of w s (t ∷ words) l1 r1 ≡ grown w s (run_of w s words l r)
shifted_run w s l r t l1 r1 words wide fits short t_is l1_is r1_is =
    let split = pow-split s w wide in
    let number = rw split at (shift_number (number_of (2 ^ w) words) l (2 ^ w) (2 ^ (s - w)) (pow_pos (s - w)) (pow_pos w) (rw split fits)) in
    rw (lt-ltb r (2 ^ (s - w)) short) (same_run _ _ (rw (t_is, l1_is) number) r1_is refl)

-- and is held behind others
pub held_run : (w s l r l1 r1 count first : ℕ) (words : List ℕ) → w ≤ s → l < 2 ^ s → r < 2 ^ (s - w) → 2 ^ s ≤ l + r → 0 < count
    → l1 ≡ l % 2 ^ (s - w) * 2 ^ w → r1 ≡ r * 2 ^ w
    → run_of w s (repeated_words (2 ^ w - 1) (count + 1) first ++ words) l1 r1 ≡ grown w s (run_of w s (repeated_words (2 ^ w - 1) count first ++ words) l r)
held_run w s l r l1 r1 count first words wide fits short over some l1_is r1_is =
    let split = pow-split s w wide in
    let ones = top_ones l r (2 ^ w) (2 ^ (s - w)) (pow_pos (s - w)) (pow_pos w) (rw split fits) short (rw split over) in
    rw (one_more_held (2 ^ w - 1) count first words some)
    (shifted_run w s l r (2 ^ w - 1) l1 r1 (repeated_words (2 ^ w - 1) count first ++ words) wide fits short (sym ones) l1_is r1_is)

-- ---- what fits after a shift
pub lower_fits : (w s l : ℕ) → w ≤ s → l % 2 ^ (s - w) * 2 ^ w < 2 ^ s
lower_fits w s l wide =
    let split = pow-split s w wide in
    rw (← split) (shifted_below l (2 ^ w) (2 ^ (s - w)) (pow_pos (s - w)) (pow_pos w))

pub range_fits : (w s r : ℕ) → w ≤ s → 1 ≤ w → r < 2 ^ (s - w) → r * 2 ^ w + 1 < 2 ^ s
range_fits w s r wide some short =
    let split = pow-split s w wide in
    let two : 2 ^ 1 ≤ 2 ^ w = pow-le-pow_right {n = 2} (lit< tt) some in
    rw (← split) (not_greatest r (2 ^ w) (2 ^ (s - w)) (omega arith) short)

pub over_fits : (w s l r l1 r1 : ℕ) → w ≤ s → l < 2 ^ s → r < 2 ^ (s - w) → 2 ^ s ≤ l + r
    → l1 ≡ l % 2 ^ (s - w) * 2 ^ w → r1 ≡ r * 2 ^ w → 2 ^ s ≤ l1 + r1
over_fits w s l r l1 r1 wide fits short over l1_is r1_is =
    let split = pow-split s w wide in
    rw (l1_is, r1_is, ← split) (over_stays l r (2 ^ w) (2 ^ (s - w)) (pow_pos (s - w)) (pow_pos w) (rw split fits) short (rw split over))

pub first_fits : (w s l r l1 r1 : ℕ) → w ≤ s → l + r < 2 ^ s
    → l1 ≡ l % 2 ^ (s - w) * 2 ^ w → r1 ≡ r * 2 ^ w → 2 ^ s ≤ l1 + r1 → l / 2 ^ (s - w) + 1 < 2 ^ w
first_fits w s l r l1 r1 wide below l1_is r1_is over =
    let split = pow-split s w wide in
    let after : 2 ^ s ≤ l % 2 ^ (s - w) * 2 ^ w + r * 2 ^ w = omega arith in
    first_not_ones l r (2 ^ w) (2 ^ (s - w)) (pow_pos (s - w)) (pow_pos w) (rw split below) (rw split after)
