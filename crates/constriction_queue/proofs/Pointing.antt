-- A decoder's numbers as it reads, over plain numbers.
use Rattle.std.proofs.Common.{◌≡◌, ℕ, zero, suc, ◌+◌, ◌-◌, ◌*◌, ◌/◌, ◌%◌, ◌^◌, ◌<◌, ◌≤◌, List, [], ◌∷◌, drop, get_or, refl, sym, ap, ◌∙◌, arith, pow_pos, mod-lt, div-add-mod', mod-eq_of_lt, suc-add, lt-ltb, le-ltb, mul-le-mul_right, le-div_iff_mul-le, lit<, inl, inr}
use native.Mathlib.Nat.{add-mul-mod_self_right, add-mod_right}
use Rattle.constriction_queue.specs.Range.{Run, IsAt, QuantileInInterval, cut, grown, number_read}
use Rattle.constriction_queue.proofs.Carry.{wraps}
use Rattle.constriction_queue.proofs.Runs.{part_inside}
use Rattle.std.proofs.Math.Nat.{pow-le-pow_right}
use Rattle.std.proofs.lemmas.Bool.{cases_lt}
use Rattle.constriction_base.proofs.Heads.{pow-split}

-- a number without what passes the end, shifted by a word behind which another comes
pub shifted_mod : (a q b x : ℕ) → 0 < q → x < b → a % (q * b) % q * b + x ≡ (a * b + x) % (q * b)
shifted_mod a q b x hq hx =
    let m : ℕ = q * b in
    let e : a % m / q * q + a % m % q ≡ a % m = div-add-mod' (a % m) q in
    let f : a / m * m + a % m ≡ a = div-add-mod' a m in
    let row : suc (a % m % q) * b ≤ q * b = mul-le-mul_right b (mod-lt (a % m) hq) in
    let fits : a % m % q * b + x < q * b = omega arith in
    let times : a * b ≡ (a / m * m + (a % m / q * q + a % m % q)) * b = ap (λ n. n * b) (sym (ap (λ n. a / m * m + n) e ∙ f)) in
    let same : a * b + x ≡ (a % m % q * b + x) + (a / m * b + a % m / q) * (q * b) = omega (arith, times) in
    sym (ap (λ n. n % (q * b)) same ∙ add-mul-mod_self_right (a % m % q * b + x) (a / m * b + a % m / q) (q * b) ∙ mod-eq_of_lt fits)

pub drop_one : (k : ℕ) (ws : List ℕ) → drop 1 (drop k ws) ≡ drop (suc k) ws
drop_one zero [] = refl
drop_one zero (x ∷ ws) = refl
drop_one (suc k) [] = refl
drop_one (suc k) (x ∷ ws) = drop_one k ws

pub first_of : (k : ℕ) (ws : List ℕ) → get_or (drop k ws) 0 0 ≡ get_or ws k 0
first_of zero ws = refl
first_of (suc k) [] = refl
first_of (suc k) (x ∷ ws) = first_of k ws

pub at_long : (w s : ℕ) (ws : List ℕ) (r : Run) (lower range point : ℕ) (rest : List ℕ) → 2 ^ (s - w) ≤ range
    → IsAt w s ws r lower range point rest → IsAt w s ws (grown w s r) lower range point rest
at_long w s ws r lower range point rest long h =
    rw (le-ltb r.range (2 ^ (s - w)) (rw h.range_is at long)) h

pub at_short : (w s : ℕ) (ws : List ℕ) (r : Run) (lower range point lower' range' point' x : ℕ) (rest rest' : List ℕ) → w ≤ s → x < 2 ^ w → range < 2 ^ (s - w)
    → lower' ≡ lower % 2 ^ (s - w) * 2 ^ w → range' ≡ range * 2 ^ w → point' ≡ point % 2 ^ (s - w) * 2 ^ w + x
    → x ≡ get_or rest 0 0 → rest' ≡ drop 1 rest
    → IsAt w s ws r lower range point rest → IsAt w s ws (grown w s r) lower' range' point' rest'
at_short w s ws r lower range point lower' range' point' x rest rest' wide fits short lower_is range_is here_is x_is rest_is h =
    let split = pow-split s w wide in
    let small : r.range < 2 ^ (s - w) = rw h.range_is at short in
    let next : suc r.moves + s / w ≡ suc (r.moves + s / w) = suc-add r.moves (s / w) in
    let none : r.low * 2 ^ w + 0 ≡ r.low * 2 ^ w = omega arith in
    let low = rw split at (shifted_mod r.low (2 ^ (s - w)) (2 ^ w) 0 (pow_pos (s - w)) (pow_pos w)) in
    let up = rw split at (shifted_mod (number_read w s ws r.moves) (2 ^ (s - w)) (2 ^ w) x (pow_pos (s - w)) fits) in
    let word : x ≡ get_or ws (r.moves + s / w) 0 = x_is ∙ ap (λ (l : List ℕ). get_or l 0 0) h.rest_is ∙ first_of (r.moves + s / w) ws in
    rw (lt-ltb r.range (2 ^ (s - w)) small) record {
      lower_is = rw (lower_is, h.lower_is) (omega (arith, low, ap (λ n. n % 2 ^ s) none));
      range_is = rw (range_is, h.range_is) refl;
      point_is = rw (next, here_is, h.point_is, ← word) up;
      rest_is = rw (next, rest_is, h.rest_is) (drop_one (r.moves + s / w) ws);
    }

-- ---- a decode
pub mod_sum : (a x m : ℕ) → 0 < m → (a % m + x) % m ≡ (a + x) % m
mod_sum a x m hm =
    let e : a / m * m + a % m ≡ a = div-add-mod' a m in
    let same : a + x ≡ (a % m + x) + a / m * m = omega arith in
    sym (ap (λ n. n % m) same ∙ add-mul-mod_self_right (a % m + x) (a / m) m)

-- a difference that wraps
pub minus_is : (d l h m : ℕ) → d < m → l < m → (d + l) % m ≡ h → d ≡ (h + (m - l)) % m
minus_is d l h m hd hl e = elim (cases_lt (d + l) m) [
  | inl low ↦
      let same : d + l ≡ h = sym (mod-eq_of_lt low) ∙ e in
      let up : h + (m - l) ≡ d + m = omega arith in
      sym (ap (λ n. n % m) up ∙ add-mod_right d m ∙ mod-eq_of_lt hd)
  | inr high ↦
      let back = wraps d l m hd hl high in
      let up : h + (m - l) ≡ d = omega (arith, e, back) in
      sym (ap (λ n. n % m) up ∙ mod-eq_of_lt hd)
]

-- a scale isn't 0
pub scale_some : (w s P r : ℕ) → P ≤ w → 2 * w ≤ s → 2 ^ (s - w) ≤ r → 0 < r / 2 ^ P
scale_some w s P r h two long =
    let wide : 2 ^ P ≤ 2 ^ (s - w) = pow-le-pow_right {n = 2} (lit< tt) (omega arith) in
    (le-div_iff_mul-le (pow_pos P)).1 (omega arith)

-- the lowest P bits lie within words of W and of V bits
pub low_in_word : (x P W V : ℕ) → x < 2 ^ P → P ≤ W → P ≤ V → x % 2 ^ W % 2 ^ V ≡ x
low_in_word x P W V fits h k =
    let upto : 2 ^ P ≤ 2 ^ W = pow-le-pow_right {n = 2} (lit< tt) h in
    let upto' : 2 ^ P ≤ 2 ^ V = pow-le-pow_right {n = 2} (lit< tt) k in
    let first : x < 2 ^ W = omega arith in
    let second : x < 2 ^ V = omega arith in
    ap (λ n. n % 2 ^ V) (mod-eq_of_lt first) ∙ mod-eq_of_lt second

-- a part of a range is a state
pub part_fits : (s n left p r z : ℕ) → z ≡ r / n → left + p ≤ n → r < 2 ^ s → z * p < 2 ^ s
part_fits s n left p r z z_is total fits =
    let part = rw (← z_is) at (part_inside r n left p total) in
    omega arith

pub at_cut : (w s P left p : ℕ) (ws : List ℕ) (r : Run) (lower range point z lower' range' : ℕ) (rest : List ℕ)
    → z ≡ range / 2 ^ P → lower' ≡ (lower + z * left) % 2 ^ s → range' ≡ z * p
    → IsAt w s ws r lower range point rest → IsAt w s ws (cut (record { precision = P; left = left; p = p }) r) lower' range' point rest
at_cut w s P left p ws r lower range point z lower' range' rest z_is lower_is range_is h =
    let scale_is : z ≡ r.range / 2 ^ P = z_is ∙ ap (λ n. n / 2 ^ P) h.range_is in
    record {
      lower_is = rw (lower_is, h.lower_is, ← scale_is) (mod_sum r.low (z * left) (2 ^ s) (pow_pos s));
      range_is = rw (range_is, scale_is) refl;
      point_is = h.point_is;
      rest_is = h.rest_is;
    }

pub takes_is : (w s P left p : ℕ) (ws : List ℕ) (r : Run) (lower range point x : ℕ) (rest : List ℕ)
    → x ≡ (point + (2 ^ s - lower)) % 2 ^ s / (range / 2 ^ P) → left ≤ x → x < left + p
    → IsAt w s ws r lower range point rest → QuantileInInterval w s ws (record { precision = P; left = left; p = p }) r
takes_is w s P left p ws r lower range point x rest x_is from below h =
    let same : (point + (2 ^ s - lower)) % 2 ^ s ≡ (number_read w s ws r.moves + (2 ^ s - r.low % 2 ^ s)) % 2 ^ s =
    rw (h.point_is, h.lower_is) (mod_sum (number_read w s ws r.moves) (2 ^ s - r.low % 2 ^ s) (2 ^ s) (pow_pos s)) in
    let is : x ≡ (number_read w s ws r.moves + (2 ^ s - r.low % 2 ^ s)) % 2 ^ s / (r.range / 2 ^ P) = rw (← same, ← h.range_is) x_is in
    record { from = rw (← is) from; below = rw (← is) below }
