-- Rows of symbols, made one after another and looked up.
use Rattle.std.proofs.Common.{◌≡◌, ℕ, ◌+◌, ◌<◌, ◌≤◌, List, [], ◌∷◌, ◌++◌, length, get_or, refl, sym, subst, inl, inr, arith, length-append}
use Rattle.std.proofs.lemmas.Bool.{cases_lt}
use Rattle.std.proofs.lemmas.List.{get_or_append_left, get_or_push, get_or_past}
use Rattle.constriction_base.specs.Reciprocals.{AreSymbolRows, IsSymbolRow}
use Rattle.constriction_base.specs.Tables.{IsRising, weights_between}
use Rattle.constriction_base.specs.declared.weights.rows.SymbolRow.{SymbolRow}
use Rattle.constriction_base.specs.laws.Weights.{weight_at, ends_inside, ends_at, length-weights_between}

-- no weight is more than all of them
pub weight_within : (starts : List ℕ) (high k : ℕ) → IsRising starts high → k < length starts → get_or (weights_between starts high) k 0 ≤ high
weight_within starts high k rising inside = elim (cases_lt (k + 1) (length starts)) [
  | inl more ↦ omega (arith, weight_at starts high k inside, ends_inside starts high k (k + 1) refl more, rising.below (k + 1) more)
  | inr end ↦ omega (arith, weight_at starts high k inside, ends_at starts high k end)
]

-- one row more
pub symbol_rows_push : {P : Type 0} (number : P → ℕ) (starts : List ℕ) (high : ℕ) (rows : List (SymbolRow P)) (row : SymbolRow P) (i : ℕ) → length rows ≡ i
    → AreSymbolRows number starts high rows → IsSymbolRow number starts high i row → AreSymbolRows number starts high (rows ++ row ∷ [])
symbol_rows_push {P} number starts high rows row i count are is k other within = elim (cases_lt k (length rows)) [
  | inl old ↦ subst (λ (r : SymbolRow P). IsSymbolRow number starts high k r) (sym (get_or_append_left rows (row ∷ []) other k old)) (are k other old)
  | inr new ↦
      let place : k ≡ i = omega (arith, length-append rows (row ∷ [])) in
      subst (λ (r : SymbolRow P). IsSymbolRow number starts high k r) (sym (get_or_push rows row other k (omega (arith, place, count))))
      (subst (λ (j : ℕ). IsSymbolRow number starts high j row) (sym place) is)
]

-- a weight above 0 is that of one of the symbols
pub weight_known : (starts : List ℕ) (high k w : ℕ) → w ≡ get_or (weights_between starts high) k 0 → 0 < w → k < length starts
weight_known starts high k w is some = elim (cases_lt k (length starts)) [
  | inl known ↦ known
  | inr past ↦ absurd (omega (arith, is, some, get_or_past (weights_between starts high) k 0 (omega (arith, past, length-weights_between starts high))))
]
