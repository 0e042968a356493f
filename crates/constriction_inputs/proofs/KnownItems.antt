-- Which items are known: those that steps of a coder were made of.
use Rattle.std.proofs.Common.{List, [], ◌∷◌, reverse, subst}
use Rattle.std.proofs.lemmas.List.{reverse-reverse}
use Rattle.constriction_base.specs.Models.{AreKnown, Item}
use Rattle.constriction_base.specs.Steps.{Trace, Step}
use Rattle.constriction_base.specs.Tables.{AtEntry}
use Rattle.constriction_base.proofs.Turns.{all-reverse}

pub known_by : {S C : Type 0} (leads : Step → C → C → Type 0) (items : List (Item S)) (old new : C)
    → Trace (λ item a b. AtEntry item.model.precision item.model.table item.symbol (λ step. leads step a b)) items old new → AreKnown items
known_by leads [] old new all = tt
known_by leads (item ∷ items) old new all = ((all.1.0, all.1.1, all.1.2), known_by leads items all.0 new all.2)

-- the same of steps from the last item to the first
pub known_turned : {S C : Type 0} (leads : Step → C → C → Type 0) (items : List (Item S)) (old new : C)
    → Trace (λ item a b. AtEntry item.model.precision item.model.table item.symbol (λ step. leads step a b)) (reverse items) old new → AreKnown items
known_turned leads items old new all = subst AreKnown (reverse-reverse items) (all-reverse _ (reverse items) (known_by leads (reverse items) old new all))
