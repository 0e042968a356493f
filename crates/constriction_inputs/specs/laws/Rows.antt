-- Lemmas about a row of weights as a model, for the implementations of the model traits.
use Rattle.std.proofs.Common.{◌≡◌, ℕ, ◌<◌, ◌≤◌, ◌^◌, ◌-◌, List, [], ◌∷◌, zero, suc, length, get_or, map, arith, pow_pos, ap}
use Rattle.constriction_base.specs.Tables.{table_of}
use Rattle.constriction_base.specs.laws.Weights.{at_least_two, has_only, weights_make_table}
use Rattle.constriction_inputs.specs.Weights.{IsTotal}

-- Each number of a list of words is below 2 ^ bits.
below_bits : {W : Type 0} (number : W → ℕ) (bits : ℕ) → ((x : W) → number x < 2 ^ bits) → (ws : List W) (k : ℕ) → get_or (map number ws) k 0 < 2 ^ bits
below_bits number bits law [] k = pow_pos bits
below_bits number bits law (w ∷ ws) zero = law w
below_bits number bits law (w ∷ ws) (suc k) = below_bits number bits law ws k

-- If the precision is the width of a word, the table has at least two symbols, because a single weight wouldn't fit.
pub two_weights : {W : Type 0} (number : W → ℕ) (bits : ℕ) → ((x : W) → number x < 2 ^ bits) → (precision : ℕ) (ws : List W) → IsTotal precision (map number ws) → precision ≡ bits → 2 ≤ length (table_of (map number ws))
two_weights number bits law precision ws total all =
    let table = weights_make_table precision (map number ws) total in
    at_least_two (2 ^ precision) _ (pow_pos precision) table.follow
    (λ s l p entry.
    let only = has_only 0 0 (map number ws) s l p entry in
    let weight : p ≡ get_or (map number ws) (s - 0) 0 = only.3 in
    let same : 2 ^ precision ≡ 2 ^ bits = ap (λ n. 2 ^ n) all in
    omega (arith, weight, same, below_bits number bits law ws (s - 0)))
