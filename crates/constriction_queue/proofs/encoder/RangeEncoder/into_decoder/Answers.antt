use Rattle.constriction_queue.proofs.Showing.{queue_is}
use Rattle.constriction_queue.proofs.encoder.RangeEncoder.into_decoder.Goals as goal

pub returns-in-Ok-with_backend-clause-ok : goal.returns-in-Ok-with_backend-clause-ok
returns-in-Ok-with_backend-clause-ok g c list =
    let words = queue_is g.Word.Natural.number (g.Backend.Holds-1.words c.in-Ok.all) c.written_to_queue.ensures.words c.in-Ok.ensures.ok in
    rw words at (c.in-Ok-with_backend.ensures.ok list)

pub returns-in-Ok-with_backend-clause-place : goal.returns-in-Ok-with_backend-clause-place
returns-in-Ok-with_backend-clause-place g c =
    (c.in-Ok.all, c.in-Ok.ensures.ok, c.written_to_queue.result, c.written_to_queue.ensures.place, c.in-Ok-with_backend.ensures.reads)
