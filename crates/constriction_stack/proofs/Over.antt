-- A coder without words below its head does the same as one over any words: the words below stay.
use Rattle.std.proofs.Common.{ℕ, List, [], ◌∷◌, ◌++◌, ap, inl, inr, arith}
use Rattle.constriction_base.specs.Steps.{Step, IsStep, IsSizes}
use Rattle.constriction_base.specs.Models.{Item, AreModels}
use Rattle.constriction_base.proofs.Entering.{entry_is_step}
use Rattle.constriction_stack.specs.Ans.{AnsState, IsNormalized, IsPush}
use Rattle.constriction_stack.specs.Symbols.{EncodesAll}
use Rattle.constriction_stack.proofs.Pushing.{only_push, push_written, push_kept}

-- a state, and more words below it
abbrev over : AnsState → List ℕ → AnsState
over x rest = record { head = x.head; words = x.words ++ rest }

-- a push, over more words
push_over : (w s : ℕ) (e : Step) (rest : List ℕ) (old new : AnsState) → IsSizes w s → IsStep w e → IsNormalized w s (over old rest) → IsPush w s e old new
    → IsPush w s e (over old rest) (over new rest)
push_over w s e rest old new z h v push = elim (only_push w s e z h old new push) [
  | inl (long, is) ↦ rw is (push_written w s e z h (over old rest) v long)
  | inr (short, is) ↦ rw is (push_kept w s e z h (over old rest) v short)
]

-- encodes of items, over more words
pub encodes_over : {S : Type 0} (w s : ℕ) (rest : List ℕ) (items : List (Item S)) (old new : AnsState) → IsSizes w s → AreModels w items → IsNormalized w s (over old rest)
    → EncodesAll w s items old new → EncodesAll w s items (over old rest) (over new rest)
encodes_over w s rest [] old new z ms v all = ap (λ (x : AnsState). over x rest) all
encodes_over w s rest (item ∷ items) old new z ms v all =
    let m = ms.0 in
    let step : Step = record { precision = item.model.precision; left = all.1.0; p = all.1.1 } in
    let h : IsStep w step = entry_is_step w item.model.precision item.model.precision all.1.0 all.1.1 item.model.table item.symbol m.lawful all.1.2 (m.some_bits, omega arith) m.within_word in
    let first = push_over w s step rest old all.0 z h v all.1.3 in
    (over all.0 rest, (all.1.0, all.1.1, all.1.2, first), encodes_over w s rest items all.0 new z ms.1 first.valid all.2)
