-- Lemmas about a row of counts as a model, for the implementations of the model traits.
use Rattle.std.proofs.Common.{ℕ, ◌-◌, ◌^◌, List, length, arith}
use Rattle.constriction_base.specs.Tables.{IsTable}
use Rattle.constriction_models.specs.Categorical.{MakeCategorical, categorical}
use Rattle.constriction_models.specs.laws.Categorical.{categorical_is_table}

-- Counts that have a table have a lawful one.
pub made_is_table : (precision : ℕ) (counts : List ℕ) → MakeCategorical precision counts → IsTable precision (categorical precision counts)
made_is_table precision counts made = categorical_is_table precision (2 ^ precision - length counts) counts (omega (arith, made.few)) made.some
