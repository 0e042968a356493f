-- Numbers of lists of words.
use Rattle.std.proofs.Common.{◌≡◌, ℕ, zero, suc, ◌+◌, ◌*◌, ◌/◌, ◌^◌, ◌<◌, List, [], ◌∷◌, get_or, refl, arith, pow_pos, suc-add, zero-add}
use native.Mathlib.Nat.{pow-suc, pow-zero}
use Rattle.constriction_base.specs.Steps.{AreWords, IsSizes}
use Rattle.constriction_queue.specs.Range.{number_of_first, number_read}
use Rattle.constriction_queue.proofs.Cuts.{more_below}
use Rattle.constriction_base.proofs.Sizes.{facts, Facts}
use Rattle.constriction_base.proofs.WordLists.{word_below}

pub number_below : (w m : ℕ) (ws : List ℕ) → AreWords w ws → number_of_first (2 ^ w) m ws < (2 ^ w) ^ m
number_below w zero ws h = rw (pow-zero (2 ^ w)) (omega arith)
number_below w (suc m) ws h =
    rw (pow-suc (2 ^ w) m) (more_below ((2 ^ w) ^ m) (number_of_first (2 ^ w) m ws) (2 ^ w) (get_or ws m 0) (word_below w ws m h) (number_below w m ws h))

-- one more word is read
pub point_more : (w s : ℕ) (ws : List ℕ) (n : ℕ) → number_read w s ws (suc n) ≡ number_read w s ws n * 2 ^ w + get_or ws (n + s / w) 0
point_more w s ws n = rw (suc-add n (s / w)) refl

-- the first number that is read is a state
pub first_point : (w s : ℕ) (ws : List ℕ) → IsSizes w s → AreWords w ws → number_read w s ws 0 < 2 ^ s
first_point w s ws z h =
    let f : Facts w s = facts w s z in
    let below : number_of_first (2 ^ w) (s / w) ws < (2 ^ w) ^ (s / w) = number_below w (s / w) ws h in
    rw (zero-add (s / w), f.all) below
