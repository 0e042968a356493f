-- The tables of the mixture as models.
use Rattle.std.proofs.Common.{◌≡◌, ℕ, List, length, map, refl, sym, ap, subst, ◌∙◌, lit≤}
use Rattle.std.specs.Prelude.{Option, Some, slice_get}
use Rattle.std.specs.Option.{option_map, unwrap_or}
use Rattle.std.specs.List.{ItemBy}
use Rattle.std.proofs.lemmas.Option.{slice_get-map, slice_get_read}
use Rattle.constriction.specs.Steps.{IsSizes}
use Rattle.constriction.specs.Tables.{entries_are_table}
use Rattle.constriction.specs.declared.stream.model.WeightTable.{WeightTable}
use Rattle.constriction.specs.Models.{Model, IsModel}
use Rattle.constriction.specs.Tables.{model_of}

-- words of 32 bits and heads of 64
pub sizes : IsSizes 32 64
sizes = record { some_bits = lit≤ tt; two_words = lit≤ tt; whole = refl }

-- a table of 12 bits is a model at words of 32 bits
pub is_model : {Probability NonZero : Type 0} {bits : _} {word : _} (table : WeightTable Probability 12 NonZero bits word) → IsModel 32 (model_of table)
is_model table = record { some_bits = lit≤ tt; within_word = lit≤ tt; lawful = entries_are_table table }

-- what a look-up lends is the model of that place
pub looked_up : {R T : Type 0} (now : R → T) (f : T → Model ℕ) (tables : List T) (i : ℕ) (answer : Option R) (lent : R)
    → ItemBy now tables i i answer → answer ≡ Some lent → slice_get (map f tables) i ≡ Some (f (now lent))
looked_up {R} now f tables i answer lent item is =
    let at = (subst (λ (r : Option R). ItemBy now tables i i r) is item).3 in
    slice_get-map f tables i ∙ ap (option_map f) (slice_get_read tables (length tables) i (now lent) refl at.0 (at.1 (now lent)))

-- a place has one model
pub one_at : (models : List (Model ℕ)) (i j : ℕ) (a b : Model ℕ) → i ≡ j → slice_get models i ≡ Some a → slice_get models j ≡ Some b → a ≡ b
one_at models i j a b same here there =
    ap (λ (found : Option (Model ℕ)). unwrap_or found a) (sym here ∙ (ap (λ (k : ℕ). slice_get models k) same ∙ there))
