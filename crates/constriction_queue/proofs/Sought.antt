-- A decoder that went to a recorded position is at that moment of reading.
use Rattle.std.proofs.Common.{◌≡◌, ℕ, zero, suc, ◌+◌, ◌*◌, ◌/◌, ◌%◌, ◌^◌, ◌<◌, ◌≤◌, List, drop, get_or, sym, ap, ◌∙◌, arith, mod-eq_of_lt, mul-le-mul_right, get_or-drop, drop-drop}
use native.Mathlib.Nat.{add-mul-mod_self_right, pow-suc, pow-zero}
use Rattle.constriction_base.specs.Steps.{IsSizes, AreWords}
use Rattle.constriction_base.proofs.Sizes.{facts}
use Rattle.constriction_queue.specs.Range.{Run, IsAt, number_of_first}
use Rattle.constriction_queue.specs.States.{IsPosition}
use Rattle.constriction_base.proofs.WordLists.{word_below}

-- the first words are a number of so many digits
first_below : (w n k : ℕ) (ws : List ℕ) → AreWords w ws → number_of_first (2 ^ w) k (drop n ws) < (2 ^ w) ^ k
first_below w n zero ws all = let one : (2 ^ w) ^ 0 ≡ 1 = pow-zero (2 ^ w) in omega (arith, one)
first_below w n (suc k) ws all =
    let before = first_below w n k ws all in
    let row : (number_of_first (2 ^ w) k (drop n ws) + 1) * 2 ^ w ≤ (2 ^ w) ^ k * 2 ^ w = mul-le-mul_right (2 ^ w) (omega (arith, before)) in
    let all_of : (2 ^ w) ^ suc k ≡ (2 ^ w) ^ k * 2 ^ w = pow-suc (2 ^ w) k in
    let word : get_or (drop n ws) k 0 < 2 ^ w = rw (get_or-drop n ws k 0) (word_below w ws (n + k) all) in
    omega (arith, row, all_of, word)

-- and more words behind them
first_behind_all : (b n k : ℕ) (ws : List ℕ) → number_of_first b (n + k) ws ≡ number_of_first b n ws * b ^ k + number_of_first b k (drop n ws)
first_behind_all b n zero ws =
    let same : n + 0 ≡ n = omega arith in
    let one : b ^ 0 ≡ 1 = pow-zero b in
    rw (same, one) (omega arith)
first_behind_all b n (suc k) ws =
    let same : n + suc k ≡ suc (n + k) = omega arith in
    let before = first_behind_all b n k ws in
    let up : b ^ suc k ≡ b ^ k * b = pow-suc b k in
    rw (same, up, before, get_or-drop n ws k 0) (omega arith)

-- the words behind a position, as many as a state has, are the point there
pub sought_is_at : (w s : ℕ) (ws : List ℕ) (r : Run) (place lower range point : ℕ) (rest : List ℕ) → IsSizes w s → AreWords w ws
    → IsPosition s r place lower range → point ≡ number_of_first (2 ^ w) (s / w) (drop place ws) → rest ≡ drop (s / w) (drop place ws)
    → IsAt w s ws r lower range point rest
sought_is_at w s ws r place lower range point rest sizes all position point_is rest_is =
    let whole : 2 ^ s ≡ (2 ^ w) ^ (s / w) = (facts w s sizes).all in
    let fits : point < 2 ^ s = rw (point_is, whole) (first_below w place (s / w) ws all) in
    let read : number_of_first (2 ^ w) (place + s / w) ws ≡ point + number_of_first (2 ^ w) place ws * 2 ^ s =
    rw (whole, point_is) (first_behind_all (2 ^ w) place (s / w) ws ∙ omega arith) in
    record {
      lower_is = position.lower_is;
      range_is = position.range_is;
      point_is = rw (← position.place_is) (sym (ap (λ n. n % 2 ^ s) read ∙ add-mul-mod_self_right point (number_of_first (2 ^ w) place ws) (2 ^ s) ∙ mod-eq_of_lt fits));
      rest_is = rw (← position.place_is) (rest_is ∙ drop-drop (s / w) place ws);
    }
