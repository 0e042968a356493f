-- Symbols that have a model each come back from a stack coder.
use Rattle.std.proofs.Common.{◌≡◌, ◌∙◌, ℕ, List, length, map, sym, ap, arith}
use Rattle.std.specs.Prelude.{reverse}
use Rattle.std.proofs.lemmas.List.{reverse-reverse}
use Rattle.constriction_stack.specs.Ans.{AnsState}
use Rattle.constriction_base.specs.Models.{Model, Item, IsModel, pairs_of, models, AreModels}
use Rattle.constriction_stack.specs.Symbols.{Encodes, Decodes, EncodesAll, DecodesAll}
use Rattle.constriction_laws.specs.stack.Undone.{decode_back}
use Rattle.constriction_laws.proofs.Undoing.{all_undone, all_free}
use Rattle.constriction_laws.proofs.of_stack.ComingBack.{decodes_only}
use Rattle.constriction_laws.proofs.PairCalls.{are_pairs, same_models, their_symbols}
use Rattle.constriction_base.proofs.Turns.{map-reverse, all-reverse}

module _ {S M : Type 0} (precision : ℕ) (table : M → List (S × ℕ × ℕ)) where
  -- the models of symbols that come back, one each, are those of the encodes the other way round
  pub models_alike : (symbols again : List S) (ms : List M) → length symbols ≡ length ms → length again ≡ length ms
      → models (pairs_of precision table again ms) ≡ reverse (models (reverse (pairs_of precision table symbols ms)))
  models_alike symbols again ms count many =
      let items : List (Item S) = pairs_of precision table symbols ms in
      same_models precision table again symbols ms (omega (arith, count, many)) ∙ sym (reverse-reverse (models items))
      ∙ ap (λ (ns : List (Model S)). reverse ns) (sym (map-reverse (λ (i : Item S). i.model) items))

  -- the same items, turned twice, are the same symbols
  pub symbols_alike : (symbols again : List S) (ms : List M) → length symbols ≡ length ms → length again ≡ length ms
      → pairs_of precision table again ms ≡ reverse (reverse (pairs_of precision table symbols ms)) → again ≡ symbols
  symbols_alike symbols again ms count many is =
      sym (their_symbols precision table again ms many)
      ∙ ap (λ (is : List (Item S)). map (λ (i : Item S). i.symbol) is) (is ∙ reverse-reverse (pairs_of precision table symbols ms)) ∙ their_symbols precision table symbols ms count

  -- the models of encodes from the last to the first
  pub are_turned : (w : ℕ) (symbols : List S) (ms : List M) → ((m : M) → IsModel w (record { precision = precision; table = table m }))
      → AreModels w (reverse (pairs_of precision table symbols ms))
  are_turned w symbols ms lawful =
      all-reverse (λ item. IsModel w item.model) (pairs_of precision table symbols ms) (are_pairs precision table w symbols ms lawful)

  -- symbols that were encoded from the last to the first come back in order, and the state before
  pub pairs_back : (w s : ℕ) (symbols again : List S) (ms : List M) (before old new : AnsState) → ((m : M) → IsModel w (record { precision = precision; table = table m }))
      → length symbols ≡ length ms → length again ≡ length ms
      → EncodesAll w s (reverse (pairs_of precision table symbols ms)) before old → DecodesAll w s (pairs_of precision table again ms) old new
      → (again ≡ symbols) × (new ≡ before)
  pairs_back w s symbols again ms before old new lawful count many encoded decoded =
      let items : List (Item S) = pairs_of precision table symbols ms in
      let others : List (Item S) = pairs_of precision table again ms in
      let turned : List (Item S) = reverse items in
      let undone = all_undone (λ item. Unit {0}) (λ state. Unit {0}) (λ item. Encodes w s item.model item.symbol) (λ item. Decodes w s item.model item.symbol)
      (λ item x y free valid e. (decode_back w s item.model item.symbol x y e, tt)) turned before old (all_free turned) tt encoded in
      let back = decodes_only w s turned others before old new (are_turned w symbols ms lawful) (models_alike symbols again ms count many) undone.0 decoded in
      (symbols_alike symbols again ms count many back.0, back.1)
