-- What fits a state, over plain numbers.
use Rattle.std.specs.Prelude.{◌≡◌, ℕ, ◌+◌, ◌-◌, ◌*◌, ◌/◌, ◌^◌, ◌≤◌, ◌<◌}
use Rattle.std.proofs.Common.{arith, lit<}
use Rattle.std.proofs.Math.Nat.{pow-le-pow_right}
use Rattle.std.proofs.lemmas.Nat.{pow_pos, mul-le}
use Rattle.std.proofs.Common.{le-div_iff_mul-le}
use Rattle.constriction_base.proofs.Heads.{pow-split}

-- the greatest state is no less than the shortest range
pub below_greatest : (s w x : ℕ) → w ≤ s → 0 < w → x + 1 ≡ 2 ^ s → 2 ^ (s - w) ≤ x
below_greatest s w x h some e =
    let split = pow-split s w (omega arith) in
    let two : 2 ^ 1 ≤ 2 ^ w = pow-le-pow_right {n = 2} (lit< tt) some in
    let twice = mul-le (2 ^ (s - w)) 2 (2 ^ (s - w)) (2 ^ w) (omega arith) (omega arith) in
    omega (arith, pow_pos (s - w))

-- a part of an interval that is long enough is no shorter than a shift makes up for
pub cut_wide : (w s P r p : ℕ) → P ≤ w → 2 * w ≤ s → 0 < p → 2 ^ (s - w) ≤ r → 2 ^ (s - w) ≤ r / 2 ^ P * p * 2 ^ w
cut_wide w s P r p h two some long =
    let K : ℕ = 2 ^ (s - w - P) in
    let split : K * 2 ^ P ≡ 2 ^ (s - w) = pow-split (s - w) P (omega arith) in
    let scale : K ≤ r / 2 ^ P = (le-div_iff_mul-le (pow_pos P)).1 (omega arith) in
    let wide : 2 ^ P ≤ 2 ^ w = pow-le-pow_right {n = 2} (lit< tt) h in
    let one : K * 1 ≤ r / 2 ^ P * p = mul-le K 1 (r / 2 ^ P) p scale some in
    let all = mul-le (K * 1) (2 ^ P) (r / 2 ^ P * p) (2 ^ w) one wide in
    omega arith
