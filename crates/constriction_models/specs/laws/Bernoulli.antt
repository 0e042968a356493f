-- Proof that the entries of a Bernoulli model make a table.
use Rattle.std.specs.Prelude.{ℕ, ◌-◌, ◌^◌, ◌<◌, ◌≤◌, length, [], ◌∷◌, Bool, true, false}
use Rattle.std.proofs.Common.{refl, inl, inr, arith, ap}
use Rattle.std.proofs.lemmas.Bool.{true≢false}
use Rattle.constriction_base.specs.Tables.{Has, IsTable}
use Rattle.constriction_models.specs.Bernoulli.{bernoulli}

-- The symbol false has no entry in a list that has only the entry of true.
apart : (at weight : ℕ) (l p : ℕ) → Has ((true, at, weight) ∷ []) false l p → ⊥
apart at weight l p (inl same) = true≢false (ap (λ (e : Bool × ℕ × ℕ). e.0) same)
apart at weight l p (inr none) = absurd none

pub bernoulli_is_table : (precision weight : ℕ) → 0 < weight → weight < 2 ^ precision → IsTable precision (bernoulli precision weight)
bernoulli_is_table precision weight some less = record {
  follow = (refl, omega arith, (omega arith, some, omega arith));
  distinct = (apart (2 ^ precision - weight) weight, (λ l p has. absurd has, tt));
}

pub bernoulli_two : (precision weight : ℕ) → 2 ≤ length (bernoulli precision weight)
bernoulli_two precision weight = omega arith
