-- Lists of symbols that are coded, and come back.
use Rattle.std.proofs.Common.{◌≡◌, ℕ, List, [], ◌∷◌, refl, sym, ap₂, ◌∙◌, subst, pow_pos, inr}
use Rattle.std.specs.Prelude.{reverse}
use Rattle.constriction_base.specs.Steps.{IsSizes}
use Rattle.constriction_stack.specs.Ans.{AnsState, IsNormalized, empty}
use Rattle.constriction_base.specs.Models.{Model, IsModel, Item, models, AreModels, AreKnown}
use Rattle.constriction_stack.specs.Symbols.{Decodes, EncodesAll, DecodesAll}
use Rattle.constriction_laws.proofs.of_stack.Choosing.{encode_exists, encode_unique, decode_unique}
use Rattle.constriction_base.proofs.SameModel.{same_item}
use Rattle.constriction_base.proofs.Turns.{map-reverse, all-reverse}

module _ {S : Type 0} (w s : ℕ) where
  -- ---- there is one list of encodes, and one of decodes
  pub encodes_exist : (items : List (Item S)) (old : AnsState) → IsSizes w s → AreModels w items → AreKnown items → IsNormalized w s old
      → (new : AnsState) × EncodesAll w s items old new × IsNormalized w s new
  encodes_exist [] old z ms ks v = (old, refl, v)
  encodes_exist (item ∷ items) old z ms ks v =
      let first = encode_exists w s item.model item.symbol old z ms.0 ks.0 v in
      let rest = encodes_exist items first.0 z ms.1 ks.1 first.1.3.valid in
      (rest.0, (first.0, first.1, rest.1), rest.2)

  pub encoded_all_valid : (items : List (Item S)) (old new : AnsState) → IsNormalized w s old → EncodesAll w s items old new → IsNormalized w s new
  encoded_all_valid [] old new v h = subst (λ (x : AnsState). IsNormalized w s x) (sym h) v
  encoded_all_valid (item ∷ items) old new v h = encoded_all_valid items h.0 new h.1.3.valid h.2

  pub encodes_unique : (items : List (Item S)) (old new other : AnsState) → IsSizes w s → AreModels w items
      → EncodesAll w s items old new → EncodesAll w s items old other → new ≡ other
  encodes_unique [] old new other z ms i j = i ∙ sym j
  encodes_unique (item ∷ items) old new other z ms i j =
      let same = encode_unique w s item.model item.symbol old i.0 j.0 z ms.0 i.1 j.1 in
      encodes_unique items j.0 new other z ms.1 (subst (λ (x : AnsState). EncodesAll w s items x new) same i.2) j.2

  pub decodes_unique : (items others : List (Item S)) (old new last : AnsState) → AreModels w items → models others ≡ models items
      → DecodesAll w s items old new → DecodesAll w s others old last → (others ≡ items) × (last ≡ new)
  decodes_unique [] [] old new last ms e i j = (refl, j ∙ sym i)
  decodes_unique [] (other ∷ others) old new last ms e i j = absurd (cc)
  decodes_unique (item ∷ items) [] old new last ms e i j = absurd (cc)
  decodes_unique (item ∷ items) (other ∷ others) old new last ms e i j =
      let model : other.model ≡ item.model = cc in
      let rest : models others ≡ models items = cc in
      let second : Decodes w s item.model other.symbol old j.0 = subst (λ (m : Model S). Decodes w s m other.symbol old j.0) model j.1 in
      let same = decode_unique w s item.model other.symbol item.symbol old j.0 i.0 ms.0.lawful second i.1 in
      let more = decodes_unique items others i.0 new last ms.1 rest i.2 (subst (λ (x : AnsState). DecodesAll w s others x last) same.1 j.2) in
      (ap₂ (λ (x : Item S) (xs : List (Item S)). x ∷ xs) (same_item other item model same.0) more.0, more.1)

  -- ---- they undo each other
  pub decodes_only : (items others : List (Item S)) (old new last : AnsState) → AreModels w items → models others ≡ reverse (models items)
      → DecodesAll w s (reverse items) new old → DecodesAll w s others new last → (others ≡ reverse items) × (last ≡ old)
  decodes_only items others old new last ms e i j =
      decodes_unique (reverse items) others new old last (all-reverse (λ item. IsModel w item.model) items ms) (e ∙ sym (map-reverse (λ (item : Item S). item.model) items)) i j

  pub encodes_only : (items : List (Item S)) (old new last : AnsState) → IsSizes w s → AreModels w items
      → EncodesAll w s (reverse items) new old → EncodesAll w s (reverse items) new last → last ≡ old
  encodes_only items old new last z ms i j =
      encodes_unique (reverse items) new last old z (all-reverse (λ item. IsModel w item.model) items ms) j i

-- the state of a new coder is valid
pub empty_valid : (w s : ℕ) → IsNormalized w s empty
empty_valid w s = record { state = record { fits = pow_pos s; are_words = tt }; full = inr refl }
