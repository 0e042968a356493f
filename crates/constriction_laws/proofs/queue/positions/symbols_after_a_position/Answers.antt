use Rattle.constriction_queue.specs.Range.{initial, sealed}
use Rattle.constriction_queue.proofs.Narrowing.{valid_start}
use Rattle.constriction_queue.proofs.Entries.{intervals}
use Rattle.constriction_queue.proofs.WordsWithin.{read_behind}
use Rattle.constriction_laws.proofs.queue.positions.symbols_after_a_position.Goals as goal
use Rattle.constriction_queue.proofs.SealedRuns.{words-sealed}

pub returns-clause-decoded : goal.returns-clause-decoded
returns-clause-decoded g c = λ w s before since middle last z bs ss h k.
    let v = intervals w s before (initial s) middle z bs (valid_start w s z) h in
    read_behind w s since middle last z ss v k
    (λ within. c.decodes_undo_encodes.ensures.back w s (sealed w s last) since middle last z (words-sealed w s last) ss v k within)

pub returns-clause-only : goal.returns-clause-only
returns-clause-only g c = λ w s before since others middle last end z bs ss h k read alike.
    let v = intervals w s before (initial s) middle z bs (valid_start w s z) h in
    let decoded = read_behind w s since middle last z ss v k
    (λ within. c.decodes_undo_encodes.ensures.back w s (sealed w s last) since middle last z (words-sealed w s last) ss v k within) in
    c.decodes_undo_encodes.ensures.only w s (sealed w s last) since others middle last end ss decoded read alike

pub returns-clause-anywhere : goal.returns-clause-anywhere
returns-clause-anywhere g c = λ w s since middle last z ss v k.
    read_behind w s since middle last z ss v k (λ within. c.decodes_undo_encodes.ensures.back w s (sealed w s last) since middle last z (words-sealed w s last) ss v k within)
