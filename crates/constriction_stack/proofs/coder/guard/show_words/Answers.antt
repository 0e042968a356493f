use Rattle.std.specs.Prelude.{List, map}
use Rattle.std.proofs.Common.{ap, ◌∙◌, inl, inr, refl}
use Rattle.constriction_base.proofs.Written.{not_written}
use Rattle.constriction_stack.specs.Ans.{AnsState}
use Rattle.constriction_stack.proofs.coder.guard.show_words.Goals as goal

pub returns-in-Err-clause-err : goal.returns-in-Err-clause-err
returns-in-Err-clause-err g c = not_written g.Word.Natural.number g.Backend.Holds g.Backend.WriteWords _ _ _ _ c.in-Err.ensures.written

pub returns-in-Err-clause-kept : goal.returns-in-Err-clause-kept
returns-in-Err-clause-kept g c =
    let state : List g.row.Word.Denot → AnsState = λ ws. record { head = g.State.Natural.number c.args.head; words = map g.Word.Natural.number ws } in
    elim c.in-Err.ensures.refused [
      | inl none ↦ inl (ap state (ap g.Backend.Holds.words (rw none at c.take_back.ensures.reads) ∙ (rw none at c.in-Err.ensures.back)))
      | inr some ↦ inr (refl, λ never. ap state (c.take_back.ensures.words never ∙ c.in-Err.ensures.back), (_, _, c.in-Err.ensures.written.begun, some, c.in-Err.ensures.back, c.take_back.ensures.reads))
    ]
