-- The steps of symbols that were encoded, and products over steps of one precision.
use Rattle.std.proofs.Common.{◌≡◌, ℕ, ◌+◌, ◌-◌, ◌*◌, ◌^◌, List, [], ◌∷◌, length, refl, subst, arith}
use native.Mathlib.Nat.{pow-suc, pow-zero}
use Rattle.std.specs.List.{AllByRecursion}
use Rattle.constriction_base.specs.Steps.{Step, IsStep, AreSteps, Trace}
use Rattle.constriction_base.specs.Models.{Item, AreModels}
use Rattle.constriction_stack.specs.Ans.{AnsState, IsPush}
use Rattle.constriction_stack.specs.Symbols.{EncodesAll}
use Rattle.constriction_queue.specs.Range.{Run}
use Rattle.constriction_queue.specs.Symbols as queue
use Rattle.constriction_queue.proofs.Entries.{entries}
use Rattle.constriction_laws.specs.Bounds.{AreEntries, product, share, rounded_whole}
use Rattle.constriction_laws.proofs.of_stack.Choosing.{step_of}

pub steps_of_encodes : {S : Type 0} (w s : ℕ) (items : List (Item S)) (old new : AnsState) → EncodesAll w s items old new
    → (steps : List Step) × AreEntries items steps × Trace (IsPush w s) steps old new
steps_of_encodes w s [] old new h = ([], tt, h)
steps_of_encodes w s (item ∷ items) old new h =
    let rest = steps_of_encodes w s items h.0 new h.2 in
    let step : Step = record { precision = item.model.precision; left = h.1.0; p = h.1.1 } in
    (step ∷ rest.0, ((h.1.0, h.1.1, h.1.2, refl), rest.1), (h.0, h.1.3, rest.2))

-- the entries to which a run was narrowed
pub narrowed_entries : {S : Type 0} (w s : ℕ) (items : List (Item S)) (old new : Run) (h : queue.NarrowsAll w s items old new) → AreEntries items (entries w s items old new h)
narrowed_entries w s [] old new h = tt
narrowed_entries w s (item ∷ items) old new h = ((h.1.0, h.1.1, h.1.2, refl), narrowed_entries w s items h.0 new h.2)

pub entries_are_steps : {S : Type 0} (w s : ℕ) (items : List (Item S)) (steps : List Step) → AreModels w items → AreEntries items steps → AreSteps w steps
entries_are_steps w s [] [] ms h = tt
entries_are_steps w s [] (e ∷ es) ms h = absurd h
entries_are_steps w s (item ∷ items) [] ms h = absurd h
entries_are_steps w s (item ∷ items) (e ∷ es) ms h =
    (subst (λ x. IsStep w x) h.0.3 (step_of w s item.model item.symbol h.0.0 h.0.1 ms.0 h.0.2), entries_are_steps w s items es ms.1 h.1)

-- at one precision the products of the spare parts are powers
pub shares_at : (w s precision : ℕ) (steps : List Step) → AllByRecursion (λ e. e.precision ≡ precision) steps
    → product (share w s) steps ≡ product (λ e. e.p) steps * (2 ^ (s - w - precision)) ^ length steps
shares_at w s precision [] all = rw (pow-zero (2 ^ (s - w - precision))) refl
shares_at w s precision (e ∷ es) all =
    let k : ℕ = 2 ^ (s - w - precision) in
    rw (shares_at w s precision es all.1, all.0, pow-suc k (length es)) (omega arith)

pub wholes_at : (w s precision : ℕ) (steps : List Step) → AllByRecursion (λ e. e.precision ≡ precision) steps
    → product (rounded_whole w s) steps ≡ (2 ^ precision) ^ length steps * (2 ^ (s - w - precision) + 1) ^ length steps
wholes_at w s precision [] all = rw (pow-zero (2 ^ precision), pow-zero (2 ^ (s - w - precision) + 1)) refl
wholes_at w s precision (e ∷ es) all =
    let k : ℕ = 2 ^ (s - w - precision) in
    rw (wholes_at w s precision es all.1, all.0, pow-suc (2 ^ precision) (length es), pow-suc (k + 1) (length es)) (omega arith)
