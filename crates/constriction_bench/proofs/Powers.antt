-- Numbers below powers of two.
use Rattle.std.proofs.Common.{◌≡◌, ℕ, ◌+◌, ◌*◌, ◌/◌, ◌%◌, ◌^◌, ◌<◌, ◌≤◌, ap, ◌∙◌, arith}
use Rattle.std.proofs.Math.Nat.{div-mul-le_self, lt-div-mul-add, mul-lt-mul_of_pos_right}
use Rattle.std.proofs.lemmas.Nat.{pow-add, pow_pos}
use Rattle.constriction_base.proofs.Sizes.{pow_le, same_number}

-- a number moved up fits
pub moved_fits : (k bits shift most : ℕ) → k < 2 ^ bits → bits + shift ≤ most → k * 2 ^ shift < 2 ^ most
moved_fits k bits shift most below within =
    let moved : k * 2 ^ shift < 2 ^ bits * 2 ^ shift = mul-lt-mul_of_pos_right below (pow_pos shift) in
    let whole : 2 ^ (bits + shift) ≡ 2 ^ bits * 2 ^ shift = pow-add 2 bits shift in
    omega (arith, pow_le (bits + shift) most within)

-- a number lies in its part of the numbers
pub covered : (q shift : ℕ) → (q / 2 ^ shift * 2 ^ shift ≤ q) × (q < q / 2 ^ shift * 2 ^ shift + 2 ^ shift)
covered q shift = (div-mul-le_self q (2 ^ shift), lt-div-mul-add (pow_pos shift))

-- nor does it change on its way there through 32 bits
pub same_in_word : (k n bits most : ℕ) → n ≡ k % 2 ^ 32 % 2 ^ most → k < 2 ^ bits → bits < 32 → bits ≤ most → n ≡ k
same_in_word k n bits most is below few within =
    let first : k % 2 ^ 32 ≡ k = same_number k bits 32 below (omega arith) in
    is ∙ ap (λ m. m % 2 ^ most) first ∙ same_number k bits most below within
