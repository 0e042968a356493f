-- Items that are alike, and symbols under one model.
use Rattle.std.proofs.Common.{◌≡◌, ℕ, List, [], ◌∷◌, length, refl, sym, ap, ap₂, ◌∙◌, arith}
use Rattle.std.specs.Prelude.{reverse, map}
use Rattle.std.proofs.lemmas.List.{length-reverse}
use Rattle.constriction_base.specs.Models.{Model, IsModel, Item, item_of, items_of, models, AreModels}
use Rattle.constriction_base.proofs.Turns.{map-reverse}

pub same_item : {S : Type 0} (a b : Item S) → a.model ≡ b.model → a.symbol ≡ b.symbol → a ≡ b
same_item {S} a b p q = ap₂ (λ (m : Model S) (x : S). let i : Item S = record { model = m; symbol = x } in i) p q

pub symbols-items_of : {S : Type 0} (model : Model S) (xs : List S) → map (λ i. i.symbol) (items_of model xs) ≡ xs
symbols-items_of model [] = refl
symbols-items_of {S} model (x ∷ xs) = ap (λ (ys : List S). x ∷ ys) (symbols-items_of model xs)

pub models-alike : {S : Type 0} (model : Model S) (xs ys : List S) → length xs ≡ length ys → models (items_of model xs) ≡ models (items_of model ys)
models-alike model [] [] e = refl
models-alike model [] (y ∷ ys) e = absurd (omega arith)
models-alike model (x ∷ xs) [] e = absurd (omega arith)
models-alike {S} model (x ∷ xs) (y ∷ ys) e = ap (λ (ms : List (Model S)). model ∷ ms) (models-alike model xs ys (omega arith))

pub are_models : {S : Type 0} (w : ℕ) (model : Model S) (xs : List S) → IsModel w model → AreModels w (items_of model xs)
are_models w model [] m = tt
are_models w model (x ∷ xs) m = (m, are_models w model xs m)

-- ---- as many symbols again, at one model
pub models_turned : {S : Type 0} (model : Model S) (symbols again : List S) → length again ≡ length symbols
    → models (items_of model again) ≡ reverse (models (items_of model symbols))
models_turned {S} model symbols again count =
    models-alike model again (reverse symbols) (count ∙ sym (length-reverse symbols))
    ∙ ap models (map-reverse (item_of model) symbols) ∙ map-reverse (λ (i : Item S). i.model) (items_of model symbols)

pub symbols_turned : {S : Type 0} (model : Model S) (symbols again : List S) → items_of model again ≡ reverse (items_of model symbols) → again ≡ reverse symbols
symbols_turned {S} model symbols again same =
    sym (symbols-items_of model again) ∙ ap (λ (items : List (Item S)). map (λ i. i.symbol) items) (same ∙ sym (map-reverse (item_of model) symbols)) ∙ symbols-items_of model (reverse symbols)
