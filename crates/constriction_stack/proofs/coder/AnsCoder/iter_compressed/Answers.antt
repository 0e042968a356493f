use Rattle.std.specs.Prelude.{◌^◌, ◌++◌, map, reverse}
use Rattle.std.proofs.Common.{ap, ◌∙◌}
use Rattle.std.specs.Int.Digits.{digits_of}
use Rattle.constriction_stack.proofs.WordsShown.{shown_is}
use Rattle.constriction_stack.proofs.coder.AnsCoder.iter_compressed.Goals as goal

pub returns-clause-exported : goal.returns-clause-exported
returns-clause-exported g c =
    let w = g.Word.Natural.BITS in
    let number = g.Word.Natural.number in
    let head = g.State.Natural.number c.self.inside.state in
    rw (← c.self.view_is) (λ order. ap (λ ws. map number ws ++ reverse (digits_of (2 ^ w) head)) c.words.ensures
    ∙ shown_is number w head (g.Backend.Holds.words c.self.inside.bulk) (g.Backend.Words.lent c.self.inside.bulk) order)
