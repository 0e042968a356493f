use Rattle.std.proofs.Common.{map, reverse, ap, ◌∙◌}
use Rattle.constriction_base.proofs.Guards.{map-drop}
use Rattle.constriction_queue.proofs.encoder.guard.EncoderGuard.drop.Goals as goal

pub returns-clause-back : goal.returns-clause-back
returns-clause-back g c =
    let number = g.Word.Natural.number in
    rw (← c.inner.view_is) (ap (map number) (c.take_back.ensures.words (λ old e new given. elim e [ ])) ∙ map-drop number c.args.self.count (reverse c.inner.inside.bulk.items))
