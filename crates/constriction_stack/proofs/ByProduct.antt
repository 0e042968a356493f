-- A push by the quotient alone.
use Rattle.std.proofs.Common.{◌≡◌, ℕ, ◌+◌, ◌-◌, ◌*◌, ◌/◌, ◌%◌, ◌≤◌, ap, arith}
use Rattle.std.proofs.lemmas.Nat.{div-add-mod'}

parts : (q p b t x left r : ℕ) → b + p ≡ t → q * p + r ≡ x → q * b + (x + left) ≡ q * t + (left + r)
parts q p b t x left r beside split =
    let whole : q * (b + p) ≡ q * t = ap (λ y. q * y) beside in
    omega (arith, whole, split)

-- the head, and for each whole p in it what a table of t has beside p
pub by_product : (x p t left : ℕ) → p ≤ t → x / p * (t - p) + (x + left) ≡ x / p * t + (left + x % p)
by_product x p t left within = parts (x / p) p (t - p) t x left (x % p) (omega arith) (div-add-mod' x p)
