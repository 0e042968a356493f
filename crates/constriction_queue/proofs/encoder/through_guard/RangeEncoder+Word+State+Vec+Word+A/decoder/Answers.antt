use Rattle.std.proofs.Common.{mod-lt, pow_pos, reverse, ap, ◌∙◌, refl, sym}
use Rattle.std.proofs.lemmas.List.{reverse-reverse}
use Rattle.constriction_queue.proofs.Beginning.{cursor_keeps, at_start}
use Rattle.constriction_queue.proofs.Distances.{from_zero}
use Rattle.constriction_queue.proofs.Showing.{queue_is}
use Rattle.std.specs.declared.convert.Infallible.{Infallible}
use Rattle.constriction_queue.specs.Guarded.{lent_by}
use Rattle.constriction_base.specs.Backends.{BufferPosition}
use Rattle.constriction_queue.proofs.encoder.through_guard.RangeEncoder+Word+State+Vec+Word+A.decoder.Goals as goal

abbrev buffer : {B : Type 0} → BufferPosition B → B
buffer place = place.buf

pub returns-clause-same_reference : goal.returns-clause-same_reference
returns-clause-same_reference g c =
    let buf = cursor_keeps Infallible g.Word.Natural.number lent_by _ _ _ c.new_at_write_beginning-bulk.result c.read_point.new.bulk c.in-Ok.ensures.reads ∙ ap buffer c.new_at_write_beginning-bulk.ensures in
    rw buf refl

pub returns-clause-ok : goal.returns-clause-ok
returns-clause-ok g c =
    let number = g.Word.Natural.number in
    let items = c.put_seal.new.self.bulk.items in
    let sealed = rw c.put_seal.ensures.coder.words_are at c.in_ok-count.ensures.shows in
    let all = queue_is number (reverse items) (sym (reverse-reverse items)) sealed in
    let point = rw c.new_at_write_beginning-bulk.ensures at ((c.in-Ok.ensures.list tt).0) in
    let rest = rw c.new_at_write_beginning-bulk.ensures at ((c.in-Ok.ensures.list tt).1) in
    at_start _ _ _ _ _ _ _ c.start.ensures.lower c.start.ensures.range (mod-lt _ (pow_pos g.State.Natural.BITS)) (from_zero _ _ _ c.start.ensures.lower (g.met.State.Natural.number_law _) ∙ (rw all at point)) (rw all at rest)

pub returns-clause-back : goal.returns-clause-back
returns-clause-back g c =
    let buf = cursor_keeps Infallible g.Word.Natural.number lent_by _ _ _ c.new_at_write_beginning-bulk.result c.read_point.new.bulk c.in-Ok.ensures.reads ∙ ap buffer c.new_at_write_beginning-bulk.ensures in
    rw buf c.in_ok-count.ensures.back

pub returns-clause-heads : goal.returns-clause-heads
returns-clause-heads g c =
    let buf = cursor_keeps Infallible g.Word.Natural.number lent_by _ _ _ c.new_at_write_beginning-bulk.result c.read_point.new.bulk c.in-Ok.ensures.reads ∙ ap buffer c.new_at_write_beginning-bulk.ensures in
    rw buf c.put_seal.ensures.heads

pub returns-clause-shows : goal.returns-clause-shows
returns-clause-shows g c =
    let buf = cursor_keeps Infallible g.Word.Natural.number lent_by _ _ _ c.new_at_write_beginning-bulk.result c.read_point.new.bulk c.in-Ok.ensures.reads ∙ ap buffer c.new_at_write_beginning-bulk.ensures in
    rw buf c.in_ok-count.ensures.shows
