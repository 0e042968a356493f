use Rattle.std.proofs.Common.{reverse, refl, sym}
use Rattle.std.proofs.lemmas.List.{reverse-reverse}
use Rattle.constriction_queue.proofs.Showing.{queue_is}
use Rattle.constriction_queue.proofs.encoder.guard.EncoderGuard.words.Goals as goal

pub returns-clause-shows : goal.returns-clause-shows
returns-clause-shows g c =
    let items = c.inner.inside.bulk.items in
    rw (c.as_slice.ensures.value, ← c.inner.view_is) (queue_is g.Word.Natural.number (reverse items) (sym (reverse-reverse items)) refl)
