use Rattle.std.proofs.Common.{◌≡◌, ℕ, ◌+◌, ◌-◌, ◌*◌, ◌/◌, ◌^◌, ◌<◌, ◌≤◌, ◌∙◌, ap, arith, pow_pos, pow-add}
use Rattle.std.proofs.lemmas.Nat.{div-mul-add}
use Rattle.constriction_base.proofs.weights.starts.ones.Goals as goal

step_of : (n m : ℕ) → n * m + m ≡ (n + 1) * m
step_of n m = omega arith

-- the highest ones, moved down
ones_left : (bits count all r : ℕ) → count ≤ bits → all + 1 ≡ 2 ^ bits → r ≡ all / 2 ^ (bits - count) → r + 1 ≡ 2 ^ count
ones_left bits count all r fits whole is =
    let above : ℕ = 2 ^ (bits - count) in
    let some : 0 < above = pow_pos (bits - count) in
    let low : 0 < 2 ^ count = pow_pos count in
    let exponent : bits ≡ count + (bits - count) = omega arith in
    let split : 2 ^ bits ≡ 2 ^ count * above = ap (λ n. 2 ^ n) exponent ∙ pow-add 2 count (bits - count) in
    let back : (2 ^ count - 1) * above + above ≡ 2 ^ count * above = (let one : (2 ^ count - 1) + 1 ≡ 2 ^ count = omega (arith, low) in step_of (2 ^ count - 1) above ∙ ap (λ n. n * above) one) in
    let parts : all ≡ (2 ^ count - 1) * above + (above - 1) = omega (arith, whole, split, some, back) in
    let high : all / above ≡ 2 ^ count - 1 = ap (λ n. n / above) parts ∙ div-mul-add (2 ^ count - 1) above (above - 1) (omega (arith, some)) in
    omega (arith, is, high, low)

pub returns : goal.returns
returns g c = ones_left _ _ _ _ c.requires.1 c.greatest.ensures (rw c.BITS.ensures at c.shift_right.ensures)
