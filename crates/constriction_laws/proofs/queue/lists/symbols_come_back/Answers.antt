use Rattle.constriction_queue.specs.Range.{initial, sealed}
use Rattle.constriction_queue.proofs.Narrowing.{valid_start}
use Rattle.constriction_queue.proofs.WordsWithin.{read_behind}
use Rattle.constriction_queue.proofs.Sealing.{sealed_end}
use Rattle.constriction_laws.proofs.queue.lists.symbols_come_back.Goals as goal
use Rattle.constriction_queue.proofs.SealedRuns.{words-sealed}

pub returns-clause-decoded : goal.returns-clause-decoded
returns-clause-decoded g c = λ w s items last z ms h.
    read_behind w s items (initial s) last z ms (valid_start w s z) h
    (λ within. c.decodes_undo_encodes.ensures.back w s (sealed w s last) items (initial s) last z (words-sealed w s last) ms (valid_start w s z) h within)

pub returns-clause-only : goal.returns-clause-only
returns-clause-only g c = λ w s items others last end z ms h read alike.
    let decoded = read_behind w s items (initial s) last z ms (valid_start w s z) h
    (λ within. c.decodes_undo_encodes.ensures.back w s (sealed w s last) items (initial s) last z (words-sealed w s last) ms (valid_start w s z) h within) in
    c.decodes_undo_encodes.ensures.only w s (sealed w s last) items others (initial s) last end ms decoded read alike

pub returns-clause-exhausted : goal.returns-clause-exhausted
returns-clause-exhausted g c = sealed_end
