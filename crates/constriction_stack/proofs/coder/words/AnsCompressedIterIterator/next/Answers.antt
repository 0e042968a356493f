use Rattle.std.proofs.Common.{◌∙◌, sym}
use Rattle.constriction_stack.proofs.WordsShown.{next_shown, one_less}
use Rattle.constriction_base.proofs.Exporting.{some_of}
use Rattle.constriction_stack.proofs.coder.words.AnsCompressedIterIterator.next.Goals as goal

pub returns-clause-steps : goal.returns-clause-steps
returns-clause-steps g c =
    let some = some_of _ c.if-is_nothing.ensures.1 in
    let rest = rw c.BITS.ensures at c.shift_right-self-inside.ensures in
    sym c.self.view_is
    ∙ next_shown g.Word.Natural.number g.Word.Natural.BITS (g.State.Natural.number c.self.inside.head) (g.Word.Natural.number c.narrow-word.result)
    (g.State.Natural.number c.shift_right-self-inside.result) c.self.inside.below.now c.self.invariant.some_bits some c.in_default.ensures.cases c.narrow-word.ensures rest

pub returns-clause-goes : goal.returns-clause-goes
returns-clause-goes g c =
    record {
      on = λ _. (tt, tt, one_less (g.Word.Natural.number c.narrow-word.result) _ _ (returns-clause-steps g c));
      keeps = tt;
      rests = λ _. tt;
    }
