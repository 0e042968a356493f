-- Encodes and decodes of symbols on the range coder as steps of its runs.
use Rattle.std.proofs.Common.{◌≡◌, ℕ, List, [], ◌∷◌, sym, ap, ◌∙◌, subst, arith}
use Rattle.constriction_base.specs.Steps.{Step, IsStep, AreSteps, IsSizes}
use Rattle.constriction_base.specs.Models.{Model, Item, IsModel, AreModels}
use Rattle.constriction_base.specs.Tables.{Has}
use Rattle.constriction_base.proofs.Entering.{entry_is_step}
use Rattle.constriction_queue.specs.Range.{Run, IsInterval, ReadAs, run}
use Rattle.constriction_queue.proofs.Narrowing.{valid_cut}
use Rattle.constriction_queue.specs.Symbols.{Narrows, NarrowsAll, FindsAll}

-- an entry of a model is a step
pub model_step : {S : Type 0} (w : ℕ) (model : Model S) (symbol : S) (left p : ℕ) → IsModel w model → Has model.table symbol left p
    → IsStep w (record { precision = model.precision; left = left; p = p })
model_step w model symbol left p m has = entry_is_step w model.precision model.precision left p model.table symbol m.lawful has (m.some_bits, omega arith) m.within_word

module _ {S : Type 0} (w s : ℕ) where
  -- the entries of the symbols
  abbrev pub entries : (items : List (Item S)) (old last : Run) → NarrowsAll w s items old last → List Step
  entries [] old last h = []
  entries (item ∷ items) old last h = record { precision = item.model.precision; left = h.1.0; p = h.1.1 } ∷ entries items h.0 last h.2

  pub are_steps : (items : List (Item S)) (old last : Run) (h : NarrowsAll w s items old last) → AreModels w items → AreSteps w (entries items old last h)
  are_steps [] old last h ms = tt
  are_steps (item ∷ items) old last h ms = (model_step w item.model item.symbol h.1.0 h.1.1 ms.0 h.1.2, are_steps items h.0 last h.2 ms.1)

  -- their run ends at the last
  pub run_is : (items : List (Item S)) (old last : Run) (h : NarrowsAll w s items old last) → run w s (entries items old last h) old ≡ last
  run_is [] old last h = sym h
  run_is (item ∷ items) old last h = ap (λ (r : Run). run w s (entries items h.0 last h.2) r) (sym h.1.3) ∙ run_is items h.0 last h.2

  -- each run is an interval
  pub interval_after : (item : Item S) (old new : Run) → IsSizes w s → IsModel w item.model → IsInterval w s old → Narrows w s item.model item.symbol old new → IsInterval w s new
  interval_after item old new z m v h =
      subst (λ (r : Run). IsInterval w s r) (sym h.3) (valid_cut w s (record { precision = item.model.precision; left = h.0; p = h.1 }) old z (model_step w item.model item.symbol h.0 h.1 m h.2) v)

  pub intervals : (items : List (Item S)) (old last : Run) → IsSizes w s → AreModels w items → IsInterval w s old → NarrowsAll w s items old last → IsInterval w s last
  intervals [] old last z ms v h = subst (λ (r : Run). IsInterval w s r) (sym h) v
  intervals (item ∷ items) old last z ms v h = intervals items h.0 last z ms.1 (interval_after item old h.0 z ms.0 v h.1) h.2

  -- a decode finds the entry that an encode takes
  abbrev pub as_encodes : (words : List ℕ) (items : List (Item S)) (old last : Run) → FindsAll w s words items old last → NarrowsAll w s items old last
  as_encodes words [] old last h = h
  as_encodes words (item ∷ items) old last h = (h.0, (h.1.0, h.1.1, h.1.2, h.1.3.1), as_encodes words items h.0 last h.2)

  pub reads_entries : (words : List ℕ) (items : List (Item S)) (old last : Run) (h : FindsAll w s words items old last)
      → ReadAs w s words (entries items old last (as_encodes words items old last h)) old
  reads_entries words [] old last h = tt
  reads_entries words (item ∷ items) old last h =
      (h.1.3.0, subst (λ (r : Run). ReadAs w s words (entries items h.0 last (as_encodes words items h.0 last h.2)) r) h.1.3.1 (reads_entries words items h.0 last h.2))
