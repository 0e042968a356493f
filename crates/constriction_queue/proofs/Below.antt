-- The number of words of a queue.
use Rattle.std.proofs.Common.{ℕ, ◌+◌, ◌*◌, ◌^◌, ◌<◌, ◌≤◌, List, [], ◌∷◌, length, arith, mul-le-mul_right}
use native.Mathlib.Nat.{pow-suc, pow-zero}
use Rattle.constriction_base.specs.Steps.{AreWords}
use Rattle.constriction_queue.specs.Encoder.{number_of}

-- so many words are a number below the base to so many
pub number_below : (w : ℕ) (ws : List ℕ) → AreWords w ws → number_of (2 ^ w) ws < (2 ^ w) ^ length ws
number_below w [] all = rw (pow-zero (2 ^ w)) (omega arith)
number_below w (x ∷ ws) all =
    let rest : (number_of (2 ^ w) ws + 1) * 2 ^ w ≤ (2 ^ w) ^ length ws * 2 ^ w =
    mul-le-mul_right (2 ^ w) (omega (arith, number_below w ws all.1)) in
    rw (pow-suc (2 ^ w) (length ws)) (omega (arith, rest, all.0))
