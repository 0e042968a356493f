use Rattle.constriction_queue.proofs.Roomy.{room_enough}
use Rattle.constriction_laws.proofs.queue.refusals.room_is_enough.Goals as goal

pub returns : goal.returns
returns g c = λ old step e new enough refused.
    room_enough g.Word.Natural.number g.Backend.Holds g.Backend.WriteWords g.Word.Natural.BITS g.State.Natural.BITS
    old step e new enough refused
