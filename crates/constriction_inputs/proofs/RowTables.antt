-- Rows of weights, taken from the first on.
use Rattle.std.proofs.Common.{◌≡◌, ℕ, zero, suc, ◌<◌, get_or, ◌+◌, ◌-◌, ◌*◌, List, map, take, drop, arith, length, sym, ap, subst, ◌∙◌, ◌↔◌, Bool, false, IsTrue}
use Rattle.std.proofs.Math.Nat.{mul-suc}
use Rattle.std.proofs.lemmas.List.{drop-drop, take-map}
use Rattle.constriction_base.specs.Tables.{table_of}
use Rattle.constriction_base.proofs.Guards.{map-drop}
use Rattle.constriction_inputs.specs.Mixtures.{row_at_index}
use Rattle.constriction_inputs.specs.Rows.{AreTotals, row_tables}
use Rattle.constriction_inputs.specs.Weights.{IsTotal}
use Rattle.constriction_inputs.proofs.Listing.{tables_counted}
use Rattle.std.proofs.lemmas.Bool.{false≢true}

-- what is left behind a row
pub rest_behind : (start width left next len : ℕ) → start + width * left ≡ len → left ≡ suc next → start + width + width * next ≡ len
rest_behind start width left next len rest is = let all = rw is at rest in omega (arith, all)

-- a row as numbers
pub row_numbers : {W : Type 0} (number : W → ℕ) (ws : List W) (start width : ℕ) → map number (take (start + width - start) (drop start ws)) ≡ take width (drop start (map number ws))
row_numbers number ws start width =
    let long : start + width - start ≡ width = omega arith in
    rw long (sym (take-map number width (drop start ws)) ∙ ap (take width) (map-drop number start ws))

-- the first of the rows that are left, and the others
pub totals_split : (precision width left next start : ℕ) (ws : List ℕ) → left ≡ suc next → AreTotals precision width left (drop start ws) → IsTotal precision (take width (drop start ws)) × AreTotals precision width next (drop (start + width) ws)
totals_split precision width left next start ws is totals = (let all = rw is at totals in (all.0, rw (drop-drop width start ws) at all.1))

pub totals_joined : (precision width left next start : ℕ) (ws : List ℕ) → left ≡ suc next → IsTotal precision (take width (drop start ws)) → AreTotals precision width next (drop (start + width) ws) → AreTotals precision width left (drop start ws)
totals_joined precision width left next start ws is total totals = rw (is, drop-drop width start ws) (total, totals)

-- where one isn't, not all are
pub not_all : (test : Bool) (one all : Type 0) → (IsTrue test ↔ one) → test ≡ false → (all → one) → (IsTrue false → all) × (all → IsTrue false)
not_all test one all is fails of = (λ yes. absurd (false≢true yes), λ every. sym fails ∙ is.1 (of every))

-- ---- the row at a place
-- it begins behind the first row and as many as stand before it
row_start : (width k : ℕ) → width + width * k ≡ width * suc k
row_start width k = (let next = mul-suc width k in omega (arith, next))

row_behind : (width k : ℕ) (ws : List ℕ) → drop (width * k) (drop width ws) ≡ drop (width * suc k) ws
row_behind width k ws = drop-drop (width * k) width ws ∙ ap (λ (n : ℕ). drop n ws) (row_start width k)

-- each of the rows adds up
pub each_total : (precision width : ℕ) (ws : List ℕ) (count : ℕ) → AreTotals precision width count ws → (k : ℕ) → k < count → IsTotal precision (row_at_index width k ws)
each_total precision width ws zero totals k within = absurd (omega arith)
each_total precision width ws (suc count) totals zero within =
    let none : 0 ≡ width * 0 = omega arith in
    subst (λ (n : ℕ). IsTotal precision (take width (drop n ws))) none totals.0
each_total precision width ws (suc count) totals (suc k) within =
    subst (λ (rest : List ℕ). IsTotal precision (take width rest)) (row_behind width k ws) (each_total precision width (drop width ws) count totals.1 k (omega arith))

-- its table
row_table_at : (width : ℕ) (ws : List ℕ) (count k : ℕ) (d : List (ℕ × ℕ × ℕ)) → k < count → get_or (row_tables width count ws) k d ≡ table_of (row_at_index width k ws)
row_table_at width ws zero k d within = absurd (omega arith)
row_table_at width ws (suc count) zero d within = (let none : 0 ≡ width * 0 = omega arith in ap (λ (n : ℕ). table_of (take width (drop n ws))) none)
row_table_at width ws (suc count) (suc k) d within =
    row_table_at width (drop width ws) count k d (omega arith) ∙ ap (λ (rest : List ℕ). table_of (take width rest)) (row_behind width k ws)

module _ (weights : List ℕ) (width count place : ℕ) (asked : place < length (row_tables width count weights)) where
  -- the list has the row
  pub row_within : place < count
  row_within = omega (arith, asked, tables_counted width count weights)

  -- the row's table is the table at its place
  pub row_table_is : (row : List ℕ) (d : List (ℕ × ℕ × ℕ)) → row ≡ row_at_index width place weights → table_of row ≡ get_or (row_tables width count weights) place d
  row_table_is row d is = ap table_of is ∙ sym (row_table_at width weights count place d row_within)
