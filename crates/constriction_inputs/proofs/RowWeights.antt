-- The table of weights, by the weights as words.
use Rattle.std.specs.Prelude.{sum}
use Rattle.std.proofs.Common.{◌≡◌, ℕ, ◌-◌, ◌^◌, ◌<◌, ◌≤◌, List, length, get_or, map, take, arith, sym, ap, ◌∙◌}
use Rattle.std.specs.List.{sum_by}
use Rattle.std.proofs.Math.Pow.{pow_mono}
use Rattle.std.proofs.lemmas.List.{length-map, take-map, get_or-map}
use Rattle.std.proofs.lemmas.List.Sums.{sum-map, sum_by_more_le}
use Rattle.constriction_base.specs.Tables.{Has, Impossible, table_of}
use Rattle.constriction_base.specs.laws.Weights.{has_only}
use Rattle.constriction_base.proofs.Entries.{has_at}
use Rattle.constriction_inputs.specs.Weights.{IsTotal}

-- the sum of the first weights, as numbers
pub sum_of_first : {W : Type 0} (number : W → ℕ) (ws : List W) (k : ℕ) → sum (take k (map number ws)) ≡ sum_by number (take k ws)
sum_of_first number ws k = ap sum (take-map number k ws) ∙ sum-map number (take k ws)

-- a weight above 0 is an entry, behind the weights before it
pub weight_found : {W : Type 0} (number : W → ℕ) (ws : List W) (k l p : ℕ) (w : W) → k < length ws → l ≡ sum_by number (take k ws) → p ≡ number (get_or ws k w) → 0 < p → Has (table_of (map number ws)) k l p
weight_found number ws k l p w within left long some =
    has_at 0 0 k (map number ws) k l p (omega (arith, length-map ws number)) some (omega arith) (omega (arith, left, sum_of_first number ws k))
    (long ∙ sym (get_or-map number ws k w 0 within))

-- a symbol past the list has no entry
pub none_past : {W : Type 0} (number : W → ℕ) (ws : List W) (k : ℕ) → length ws ≤ k → Impossible (table_of (map number ws)) k
none_past number ws k past l p entry =
    let only = has_only 0 0 (map number ws) k l p entry in
    omega (arith, only.1, length-map ws number)

-- nor has one of weight 0
pub none_of_nothing : {W : Type 0} (number : W → ℕ) (ws : List W) (k : ℕ) (w : W) → k < length ws → number (get_or ws k w) ≡ 0 → Impossible (table_of (map number ws)) k
none_of_nothing number ws k w within nothing l p entry =
    let only = has_only 0 0 (map number ws) k l p entry in
    let same : k - 0 ≡ k = omega arith in
    omega (arith, rw same at only.3, only.2, get_or-map number ws k w 0 within, nothing)

-- what stands before a weight above 0 is below the total
pub first_fits : {W : Type 0} (number : W → ℕ) (precision bits : ℕ) (ws : List W) (k : ℕ) (w : W) → IsTotal precision (map number ws) → precision ≤ bits → k < length ws → 0 < number (get_or ws k w) → sum_by number (take k ws) < 2 ^ bits
first_fits number precision bits ws k w total fits within some =
    omega (arith, sum_by_more_le number ws k w within, some, sum-map number ws, total, pow_mono fits)
