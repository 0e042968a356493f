use Rattle.std.specs.Prelude.{List, ◌++◌, map}
use Rattle.std.proofs.Common.{ℕ, ◌∙◌, ap, subst, sym}
use Rattle.constriction_base.specs.Writing.{NotWritten}
use Rattle.constriction_stack.specs.Ans.{AnsState, value_of}
use Rattle.constriction_stack.specs.Guards.{LeftByRefusal}
use Rattle.constriction_stack.proofs.Guards.{counted_digits, taken_off}
use Rattle.constriction_stack.proofs.coder.AnsCoder.put_compressed.Goals as goal

pub returns-clause-shows : goal.returns-clause-shows
returns-clause-shows g c =
    let number = g.Word.Natural.number in
    let head = g.State.Natural.number c.self.inside.state in
    let below = map number (g.Backend.Holds.words c.self.inside.bulk) in
    let state : List ℕ → AnsState = λ ws. record { head = head; words = ws } in
    let digits = counted_digits g.Word.Natural.BITS c.count_of_words-count.result head c.self.invariant.some_bits c.count_of_words-count.ensures in
    rw (← c.self.view_is) (ap state (c.in-Ok.ensures.words ∙ ap (λ (ds : List ℕ). ds ++ below) digits))

pub returns-clause-back : goal.returns-clause-back
returns-clause-back g c =
    rw (← c.self.view_is) (sym (taken_off g.Word.Natural.number (g.State.Natural.number c.self.inside.state) c.count_of_words-count.result (g.Backend.Holds.words c.show_words.new.bulk) (g.Backend.Holds.words c.self.inside.bulk) (sym c.in-Ok.ensures.back)))

pub returns-in-Err-clause-err : goal.returns-in-Err-clause-err
returns-in-Err-clause-err g c =
    let digits = counted_digits g.Word.Natural.BITS c.count_of_words-count.result (g.State.Natural.number c.self.inside.state) c.self.invariant.some_bits c.count_of_words-count.ensures in
    rw (← c.self.view_is) (subst (λ ds. NotWritten g.Word.Natural.number g.Backend.Holds g.Backend.WriteWords ds c.self.inside.bulk c.in-Err.error) digits c.in-Err.ensures.err)

pub returns-in-Err-clause-kept : goal.returns-in-Err-clause-kept
returns-in-Err-clause-kept g c =
    let number = g.Word.Natural.number in
    let head = g.State.Natural.number c.self.inside.state in
    let digits = counted_digits g.Word.Natural.BITS c.count_of_words-count.result head c.self.invariant.some_bits c.count_of_words-count.ensures in
    rw (← c.self.view_is) (
    subst (λ ds. LeftByRefusal number g.Backend.Holds g.Backend.WriteWords g.Backend.ReadWords.reads ds (value_of number g.Backend.Holds head c.self.inside.bulk) c.in-Err.error
    (value_of number g.Backend.Holds head c.show_words.new.bulk)) digits c.in-Err.ensures.kept
    )
