-- Two lemmas for the laws of the word traits: x % 2 ^ bits < 2 ^ bits, and 0 < n + 1.
use Rattle.std.specs.Prelude.{ℕ, ◌+◌, ◌<◌, ◌%◌, ◌^◌}
use Rattle.std.proofs.Common.{arith}
use Rattle.std.proofs.lemmas.Nat.{pow_pos, mod_below}

-- The remainder modulo a power of two is below that power.
pub below_power : (bits x : ℕ) → x % 2 ^ bits < 2 ^ bits
below_power bits x = mod_below x (2 ^ bits) (pow_pos bits)

-- The successor of a number is above zero.
pub above_zero : (n : ℕ) → 0 < n + 1
above_zero n = omega arith
