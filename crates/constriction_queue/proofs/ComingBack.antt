-- There is one list of encodes, and one of decodes.
use Rattle.std.proofs.Common.{◌≡◌, ℕ, List, [], ◌∷◌, refl, sym, ap₂, ◌∙◌, subst}
use Rattle.std.specs.Prelude.{◌/◌, ◌^◌}
use Rattle.constriction_base.specs.Steps.{Step}
use Rattle.constriction_base.specs.Models.{Model, IsModel, Item, models, AreModels, AreKnown}
use Rattle.constriction_base.proofs.Entries.{one_at, one_of}
use Rattle.constriction_queue.specs.Range.{Run, narrowed_by, offset}
use Rattle.constriction_queue.specs.Symbols.{Narrows, NarrowsAll, Finds, FindsAll}
use Rattle.constriction_base.proofs.SameModel.{same_item}

module _ {S : Type 0} (w s : ℕ) where
  pub encodes_exist : (items : List (Item S)) (old : Run) → AreKnown items → (new : Run) × NarrowsAll w s items old new
  encodes_exist [] old ks = (old, refl)
  encodes_exist (item ∷ items) old ks =
      let e : Step = record { precision = item.model.precision; left = ks.0.0; p = ks.0.1 } in
      let rest = encodes_exist items (narrowed_by w s e old) ks.1 in
      (rest.0, (narrowed_by w s e old, (ks.0.0, ks.0.1, ks.0.2, refl), rest.1))

  one_encode : (model : Model S) (symbol : S) (old a b : Run) → IsModel w model → Narrows w s model symbol old a → Narrows w s model symbol old b → a ≡ b
  one_encode model symbol old a b m i j =
      let same = one_of model.table symbol j.0 i.0 j.1 i.1 m.lawful.distinct j.2 i.2 in
      i.3 ∙ sym (rw (same.0, same.1) at j.3)

  pub encodes_unique : (items : List (Item S)) (old new other : Run) → AreModels w items → NarrowsAll w s items old new → NarrowsAll w s items old other → new ≡ other
  encodes_unique [] old new other ms i j = i ∙ sym j
  encodes_unique (item ∷ items) old new other ms i j =
      let same = one_encode item.model item.symbol old i.0 j.0 ms.0 i.1 j.1 in
      encodes_unique items j.0 new other ms.1 (subst (λ (r : Run). NarrowsAll w s items r new) same i.2) j.2

  -- only one symbol is read under a table
  pub one_decode : (words : List ℕ) (model : Model S) (x y : S) (old a b : Run) → IsModel w model → Finds w s words model x old a → Finds w s words model y old b → (x ≡ y) × (a ≡ b)
  one_decode words model x y old a b m i j =
      let q : ℕ = offset w s words old / (old.range / 2 ^ model.precision) in
      let same = one_at 0 (2 ^ model.precision) q model.table x y i.0 j.0 i.1 j.1 m.lawful.follow i.2 j.2 (i.3.0.from, i.3.0.below) (j.3.0.from, j.3.0.below) in
      (same.0, rw (same.1, same.2) at i.3.1 ∙ sym j.3.1)

  pub decodes_unique : (words : List ℕ) (items others : List (Item S)) (old new last : Run) → AreModels w items → models others ≡ models items
      → FindsAll w s words items old new → FindsAll w s words others old last → (others ≡ items) × (last ≡ new)
  decodes_unique words [] [] old new last ms e i j = (refl, j ∙ sym i)
  decodes_unique words [] (other ∷ others) old new last ms e i j = absurd (cc)
  decodes_unique words (item ∷ items) [] old new last ms e i j = absurd (cc)
  decodes_unique words (item ∷ items) (other ∷ others) old new last ms e i j =
      let model : other.model ≡ item.model = cc in
      let rest : models others ≡ models items = cc in
      let second : Finds w s words item.model other.symbol old j.0 = subst (λ (m : Model S). Finds w s words m other.symbol old j.0) model j.1 in
      let same = one_decode words item.model other.symbol item.symbol old j.0 i.0 ms.0 second i.1 in
      let more = decodes_unique words items others i.0 new last ms.1 rest i.2 (subst (λ (r : Run). FindsAll w s words others r last) same.1 j.2) in
      (ap₂ (λ (x : Item S) (xs : List (Item S)). x ∷ xs) (same_item other item model same.0) more.0, more.1)
