-- Symbols of two chain coders over equal words, of which the first were decoded by two models.
use Rattle.std.proofs.Common.{ℕ, List, [], ◌∷◌, map}
use Rattle.constriction_base.specs.Models.{AreModels, IsModel, Item, Model, pairs_of}
use Rattle.constriction_chain.specs.Chain.{ChainState}
use Rattle.constriction_chain.specs.Runs.{Decode, Event, IsRun}
use Rattle.constriction_chain.specs.Symbols.{ChainDecodesAll}

-- a decode of an item, as an event of a run
abbrev pub event_of : {S : Type 0} → Item S → Event S
event_of item = Decode (record { precision = item.model.precision; table = item.model.table; symbol = item.symbol })

-- decodes of items are a run
pub run_of : {S : Type 0} (w s : ℕ) (items : List (Item S)) (old new : ChainState) → AreModels w items → ChainDecodesAll w s items old new → IsRun w s old (map event_of items) new
run_of w s [] old new ms all = all
run_of w s (item ∷ items) old new ms (next, (left, p, has, d), all) =
    (next, left, p, ms.0.within_word, ms.0.lawful, has, d, run_of w s items next new ms.1 all)

module _ {S M : Type 0} (w s P : ℕ) (table : M → List (S × ℕ × ℕ)) where
  abbrev model : M → Model S
  model m = record { precision = P; table = table m }

  pub pairs_are : ((m : M) → IsModel w (model m)) → (xs : List S) (ms : List M) → AreModels w (pairs_of P table xs ms)
  pairs_are law [] [] = tt
  pairs_are law [] (m ∷ ms) = tt
  pairs_are law (x ∷ xs) [] = tt
  pairs_are law (x ∷ xs) (m ∷ ms) = (law m, pairs_are law xs ms)
