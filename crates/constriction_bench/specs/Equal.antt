-- The table of 2 ^ bits symbols with the same weight, 2 ^ shift.
use Rattle.std.specs.Prelude.{◌≡◌, ℕ, zero, suc, ◌+◌, ◌*◌, ◌<◌, ◌≤◌, ◌^◌, List, length, sum, take}
use Rattle.std.proofs.Common.{arith, refl, sym, ap, ◌∙◌}
use Rattle.std.proofs.Math.Nat.{pow-le-pow_right}
use Rattle.std.proofs.Math.ListN.{replicate}
use Rattle.std.proofs.lemmas.Nat.{pow-add, pow_pos}
use Rattle.std.proofs.lemmas.List.{length-replicate, take-replicate, get_or-replicate}
use Rattle.std.proofs.lemmas.List.Folds.{sum_by-replicate}
use Rattle.constriction_base.specs.Tables.{Has, Impossible, IsTable, table_of, table_from}
use Rattle.constriction_base.specs.laws.Weights.{weights_make_table, has_only}
use Rattle.constriction_base.proofs.Entries.{has_at}

-- The table of the symbols below 2 ^ bits, each with the weight 2 ^ shift.
pub equal_table : ℕ → ℕ → List (ℕ × ℕ × ℕ)
equal_table bits shift = table_of (replicate (2 ^ bits) (2 ^ shift))

-- Equal weights that add up to 2 ^ precision make a table.
pub equal_makes_table : (precision bits shift : ℕ) → bits + shift ≡ precision → IsTable precision (equal_table bits shift)
unfolding equal_table
equal_makes_table precision bits shift whole =
    weights_make_table precision (replicate (2 ^ bits) (2 ^ shift))
    (sum_by-replicate (λ (x : ℕ). x) (2 ^ bits) (2 ^ shift) ∙ sym (pow-add 2 bits shift) ∙ ap (λ n. 2 ^ n) whole)

-- The entry of a symbol k below 2 ^ bits begins at k * 2 ^ shift, and its length is 2 ^ shift.
pub equal_has : (bits shift k l p : ℕ) → k < 2 ^ bits → l ≡ k * 2 ^ shift → p ≡ 2 ^ shift → Has (equal_table bits shift) k l p
unfolding equal_table
equal_has bits shift k l p below left weight =
    let n : ℕ = 2 ^ bits in
    let w : ℕ = 2 ^ shift in
    let some : 0 < w = pow_pos shift in
    let before : sum (take k (replicate n w)) ≡ k * w = rw (take-replicate k n w (omega arith)) (sum_by-replicate (λ (x : ℕ). x) k w) in
    has_at 0 0 k (replicate n w) k l p (omega (arith, length-replicate n w)) (omega arith) (omega arith) (omega (arith, before)) (weight ∙ sym (get_or-replicate n k w 0 below))

-- A symbol of at least 2 ^ bits has no entry.
pub equal_impossible : (bits shift k : ℕ) → 2 ^ bits ≤ k → Impossible (equal_table bits shift) k
unfolding equal_table
equal_impossible bits shift k past l p has =
    let only = has_only 0 0 (replicate (2 ^ bits) (2 ^ shift)) k l p has in
    omega (arith, only.1, length-replicate (2 ^ bits) (2 ^ shift))

-- The table of n equal weights above 0 has n entries.
length-equal : (symbol left n w : ℕ) → 0 < w → length (table_from symbol left (replicate n w)) ≡ n
length-equal symbol left zero w some = refl
length-equal symbol left (suc n) zero some = absurd (omega arith)
length-equal symbol left (suc n) (suc w) some = ap suc (length-equal (symbol + 1) (left + suc w) n (suc w) some)

-- If `bits` is at least 1, the table has at least two entries.
pub equal_two : (bits shift : ℕ) → 1 ≤ bits → 2 ≤ length (equal_table bits shift)
unfolding equal_table
equal_two bits shift some =
    let grown : 2 ^ 1 ≤ 2 ^ bits = pow-le-pow_right (omega arith) some in
    omega (arith, length-equal 0 0 (2 ^ bits) (2 ^ shift) (pow_pos shift), grown)
