-- Which symbols rows of weights know, row by row.
use Rattle.std.proofs.Common.{◌≡◌, ◌↔◌, ℕ, ◌+◌, ◌<◌, ◌≤◌, inl, inr, Bool, true, false, not, IsTrue, List, ◌∷◌, length, take, drop, get_or, map, refl, sym, ap, ◌∙◌, arith}
use Rattle.std.proofs.lemmas.Bool.{cases_eq, false≢true}
use Rattle.std.specs.List.{sum_by}
use Rattle.std.proofs.lemmas.List.{drop-drop, drop_more}
use Rattle.constriction_base.specs.Models.{AreKnown, Knows, item_of}
use Rattle.constriction_inputs.specs.Rows.{row_items}
use Rattle.constriction_inputs.specs.Weights.{weights_model}
use Rattle.constriction_inputs.proofs.RowWeights.{none_past, none_of_nothing, weight_found}

-- the items that are left behind a place: the first of them, and the others
items_behind : (precision width start : ℕ) (ws symbols : List ℕ) (i : ℕ) → i < length symbols
    → row_items precision width (drop start ws) (drop i symbols)
    ≡ item_of (weights_model precision (take width (drop start ws))) (get_or symbols i 0) ∷ row_items precision width (drop (start + width) ws) (drop (i + 1) symbols)
items_behind precision width start ws symbols i within = rw (drop_more symbols i 0 within, drop-drop width start ws) refl

-- the first of the rows that are left knows its symbol, and so do the others
pub known_split : (precision width start : ℕ) (ws symbols : List ℕ) (i : ℕ) → i < length symbols → AreKnown (row_items precision width (drop start ws) (drop i symbols))
    → Knows (weights_model precision (take width (drop start ws))) (get_or symbols i 0) × AreKnown (row_items precision width (drop (start + width) ws) (drop (i + 1) symbols))
known_split precision width start ws symbols i within all = rw (items_behind precision width start ws symbols i within) at all

pub known_joined : (precision width start : ℕ) (ws symbols : List ℕ) (i : ℕ) → i < length symbols → Knows (weights_model precision (take width (drop start ws))) (get_or symbols i 0)
    → AreKnown (row_items precision width (drop (start + width) ws) (drop (i + 1) symbols)) → AreKnown (row_items precision width (drop start ws) (drop i symbols))
known_joined precision width start ws symbols i within first others = rw (items_behind precision width start ws symbols i within) (first, others)

-- a symbol past a row isn't known
pub past_unknown : {W : Type 0} (number : W → ℕ) (precision : ℕ) (ws : List W) (x : ℕ) → length ws ≤ x → IsTrue false ↔ Knows (weights_model precision (map number ws)) x
past_unknown number precision ws x past = (λ yes. absurd (false≢true yes), λ known. absurd (none_past number ws x past known.0 known.1 known.2))

-- and one within where its weight isn't 0
pub weight_known : {W : Type 0} (number : W → ℕ) (precision : ℕ) (ws : List W) (x : ℕ) (w : W) (nothing : Bool) → x < length ws → w ≡ get_or ws x w → (IsTrue nothing ↔ (number w ≡ 0))
    → IsTrue (not nothing) ↔ Knows (weights_model precision (map number ws)) x
weight_known number precision ws x w true within is value =
    (λ yes. absurd (false≢true yes), λ known. absurd (none_of_nothing number ws x w within (ap number (sym is) ∙ value.0 refl) known.0 known.1 known.2))
weight_known number precision ws x w false within is value =
    let some : 0 < number w = elim (cases_eq (number w) 0) [
      | inl none ↦ absurd (false≢true (value.1 none))
      | inr more ↦ omega (arith, more)
    ] in
    (λ yes. (sum_by number (take x ws), number w, weight_found number ws x _ _ w within refl (ap number is) some), λ known. refl)
