use Rattle.constriction_stack.proofs.Guards.{taken_off}
use Rattle.constriction_stack.proofs.coder.guard.CoderGuard.drop.Goals as goal

pub returns-clause-back : goal.returns-clause-back
returns-clause-back g c =
    let head = g.State.Natural.number c.inner.inside.state in
    rw (← c.inner.view_is) (λ never.
    taken_off g.Word.Natural.number head c.args.self.count (g.Backend.Holds.words c.inner.inside.bulk) (g.Backend.Holds.words c.take_back.new.bulk) (c.take_back.ensures.words never))
