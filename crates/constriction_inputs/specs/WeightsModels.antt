-- The table of a `WeightsModel` is the table of the model that it holds.
use Rattle.std.specs.Prelude.{◌≡◌, ℕ, ◌≤◌, List, length}
use Rattle.constriction_base.specs.Tables.{IsTable}
use Rattle.constriction_inputs.specs.declared.models.weights_model.WeightsModel.{WeightsModel}
use Rattle.constriction_inputs.specs.declared.models.weights_model.WeightsModel.TheVariants.{Table, Rows}

-- The value of the first function at a table of weights, and of the second function at rows.
abbrev pub of_either : {T R A : Type 0} → (T → A) → (R → A) → WeightsModel T R → A
of_either of_table of_rows (Table m) = of_table m
of_either of_table of_rows (Rows m) = of_rows m

-- ---- the laws of models
pub lawful_of_either : {T R : Type 0} (precision : ℕ) (of_table : T → List (ℕ × ℕ × ℕ)) (of_rows : R → List (ℕ × ℕ × ℕ))
    → ((m : T) → IsTable precision (of_table m)) → ((m : R) → IsTable precision (of_rows m)) → (m : WeightsModel T R) → IsTable precision (of_either of_table of_rows m)
lawful_of_either precision of_table of_rows table rows (Table m) = table m
lawful_of_either precision of_table of_rows table rows (Rows m) = rows m

pub sized_of_either : {T R A : Type 0} → (T → A) → (R → A) → WeightsModel T R → A
sized_of_either table rows (Table m) = table m
sized_of_either table rows (Rows m) = rows m

pub two_of_either : {T R : Type 0} (precision bits : ℕ) (of_table : T → List (ℕ × ℕ × ℕ)) (of_rows : R → List (ℕ × ℕ × ℕ))
    → ((m : T) → precision ≡ bits → 2 ≤ length (of_table m)) → ((m : R) → precision ≡ bits → 2 ≤ length (of_rows m))
    → (m : WeightsModel T R) → precision ≡ bits → 2 ≤ length (of_either of_table of_rows m)
two_of_either precision bits of_table of_rows table rows (Table m) = table m
two_of_either precision bits of_table of_rows table rows (Rows m) = rows m
