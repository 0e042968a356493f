use Rattle.std.specs.Prelude.{◌≡◌, ℕ, ◌^◌, List, ◌++◌, Ok, map}
use Rattle.std.proofs.Common.{ap, subst, ◌∙◌}
use Rattle.std.proofs.lemmas.Bool.{false≢true}
use Rattle.constriction_base.specs.Digits.{count_of_words, fixed_digits}
use Rattle.constriction_base.specs.Writing.{NotWritten}
use Rattle.constriction_base.proofs.Written.{not_written}
use Rattle.constriction_stack.proofs.Guards.{counted_digits}
use Rattle.constriction_stack.proofs.coder.AnsCoder.into_compressed.Goals as goal

pub returns-in-Ok-clause-ok : goal.returns-in-Ok-clause-ok
returns-in-Ok-clause-ok g c =
    let head = g.State.Natural.number c.self.inside.state in
    let below = map g.Word.Natural.number (g.Backend.Holds.words c.self.inside.bulk) in
    let digits = counted_digits g.Word.Natural.BITS c.count_of_words-count.result head c.self.invariant.some_bits c.count_of_words-count.ensures in
    rw (← c.self.view_is) (c.in-Ok.ensures.written.words ∙ ap (λ (ds : List ℕ). ds ++ below) digits)

pub returns-in-Ok-clause-untouched : goal.returns-in-Ok-clause-untouched
returns-in-Ok-clause-untouched g c = rw (← c.self.view_is) (λ (zero : g.State.Natural.number c.self.inside.state ≡ 0).
    let none : c.count_of_words-count.result ≡ 0 = c.count_of_words-count.ensures ∙ ap (count_of_words g.Word.Natural.BITS) zero in
    ap Ok (c.in-Ok.ensures.written.untouched (ap (λ n. fixed_digits (2 ^ g.Word.Natural.BITS) n (g.State.Natural.number c.self.inside.state)) none)).1)

pub returns-in-Err-clause-untouched : goal.returns-in-Err-clause-untouched
returns-in-Err-clause-untouched g c = rw (← c.self.view_is) (λ (zero : g.State.Natural.number c.self.inside.state ≡ 0).
    let none : c.count_of_words-count.result ≡ 0 = c.count_of_words-count.ensures ∙ ap (count_of_words g.Word.Natural.BITS) zero in
    absurd (false≢true (c.in-Err.ensures.written.untouched (ap (λ n. fixed_digits (2 ^ g.Word.Natural.BITS) n (g.State.Natural.number c.self.inside.state)) none)).0))

pub returns-in-Err-clause-err : goal.returns-in-Err-clause-err
returns-in-Err-clause-err g c =
    let number = g.Word.Natural.number in
    let digits = counted_digits g.Word.Natural.BITS c.count_of_words-count.result (g.State.Natural.number c.self.inside.state) c.self.invariant.some_bits c.count_of_words-count.ensures in
    let refused = not_written number g.Backend.Holds g.Backend.WriteWords _ _ _ _ c.in-Err.ensures.written in
    rw (← c.self.view_is) (subst (λ ds. NotWritten number g.Backend.Holds g.Backend.WriteWords ds c.self.inside.bulk c.in-Err.error) digits refused)
