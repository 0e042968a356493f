-- How far a point lies above an interval's low end, modulo the numbers of a state.
use Rattle.std.proofs.Common.{◌≡◌, ◌∙◌, ℕ, suc, ◌+◌, ◌-◌, ◌*◌, ◌/◌, ◌%◌, ◌^◌, ◌<◌, ◌≤◌, refl, sym, ap, arith, pow_pos, mod-eq_of_lt, div-add-mod', le-div_iff_mul-le, div-lt_iff_lt-mul, mul-le-mul_right}
use native.Mathlib.Nat.{add-mul-mod_self_right}
use Rattle.constriction_base.proofs.Heads.{pow-split}
use Rattle.constriction_queue.proofs.Pointing.{minus_is, mod_sum, shifted_mod}

-- the distance of the point that it makes with the low end
pub distance_of : (d l m : ℕ) → d < m → l < m → ((d + l) % m + (m - l)) % m ≡ d
distance_of d l m hd hl = sym (minus_is d l ((d + l) % m) m hd hl refl)

mod_second : (a x m : ℕ) → 0 < m → (a + x % m) % m ≡ (a + x) % m
mod_second a x m some =
    let one : a + x % m ≡ x % m + a = omega arith in
    let two : x + a ≡ a + x = omega arith in
    ap (λ n. n % m) one ∙ mod_sum x a m some ∙ ap (λ n. n % m) two

-- where the low end moves up within the distance, the point stays
pub point_stays : (d l k m : ℕ) → 0 < m → k ≤ d → ((d - k) + (l + k) % m) % m ≡ (d + l) % m
point_stays d l k m some le =
    let same : (d - k) + (l + k) ≡ d + l = omega arith in
    mod_second (d - k) (l + k) m some ∙ ap (λ n. n % m) same

-- numbers modulo a multiple
mod_part : (y q b : ℕ) → 0 < q → y % (q * b) % q ≡ y % q
mod_part y q b hq =
    let parts : y / (q * b) * (q * b) + y % (q * b) ≡ y = div-add-mod' y (q * b) in
    let same : y ≡ y % (q * b) + y / (q * b) * b * q = omega (arith, parts) in
    sym (ap (λ n. n % q) same ∙ add-mul-mod_self_right (y % (q * b)) (y / (q * b) * b) q)

-- where both take a word, the point takes it too
pub point_shifted : (w s d l x : ℕ) → w ≤ s → x < 2 ^ w → ((d * 2 ^ w + x) + l % 2 ^ (s - w) * 2 ^ w) % 2 ^ s ≡ (d + l) % 2 ^ s % 2 ^ (s - w) * 2 ^ w + x
point_shifted w s d l x wide fits =
    let q : ℕ = 2 ^ (s - w) in
    let b : ℕ = 2 ^ w in
    let split : q * b ≡ 2 ^ s = pow-split s w wide in
    let same : (d * b + x) + l % q * b ≡ (d + l % q) * b + x = omega arith in
    let up : ((d + l % q) * b + x) % 2 ^ s ≡ (d + l % q) % 2 ^ s % q * b + x = rw split at (sym (shifted_mod (d + l % q) q b x (pow_pos (s - w)) fits)) in
    let first : (d + l % q) % 2 ^ s % q ≡ (d + l % q) % q = rw split at (mod_part (d + l % q) q b (pow_pos (s - w))) in
    let low : (d + l % q) % 2 ^ s % q ≡ (d + l) % 2 ^ s % q = first ∙ mod_second d l q (pow_pos (s - w)) ∙ sym (rw split at (mod_part (d + l) q b (pow_pos (s - w)))) in
    ap (λ n. n % 2 ^ s) same ∙ up ∙ ap (λ n. n * b + x) low

-- a distance below the shortest range has room for a word
pub room_for_word : (w s d x : ℕ) → w ≤ s → d < 2 ^ (s - w) → x < 2 ^ w → d * 2 ^ w + x < 2 ^ s
room_for_word w s d x wide short fits =
    let split = pow-split s w wide in
    let row : suc d * 2 ^ w ≤ 2 ^ (s - w) * 2 ^ w = mul-le-mul_right (2 ^ w) short in
    omega arith

-- the part that holds the quantile holds the distance
pub part_from : (d z left : ℕ) → 0 < z → left ≤ d / z → z * left ≤ d
part_from d z left hz h = let m : left * z ≤ d = (le-div_iff_mul-le hz).0 h in omega arith

pub part_below : (d z left p : ℕ) → 0 < z → left ≤ d / z → d / z < left + p → d - z * left < z * p
part_below d z left p hz h k =
    let m : left * z ≤ d = (le-div_iff_mul-le hz).0 h in
    let n : d < (left + p) * z = (div-lt_iff_lt-mul hz).0 k in
    omega arith

-- above a low end of 0 the distance is the point
pub from_zero : (p l m : ℕ) → l ≡ 0 → p < m → (p + l) % m ≡ p
from_zero p l m none fits =
    let same : p + l ≡ p = omega (arith, none) in
    ap (λ n. n % m) same ∙ mod-eq_of_lt fits
