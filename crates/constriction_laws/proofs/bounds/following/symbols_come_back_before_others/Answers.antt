use Rattle.std.specs.Prelude.{◌++◌}
use Rattle.constriction_queue.specs.Range.{sealed, initial}
use Rattle.constriction_queue.proofs.Narrowing.{valid_start}
use Rattle.constriction_laws.proofs.FollowingWords.{read_before}
use Rattle.constriction_laws.proofs.bounds.following.symbols_come_back_before_others.Goals as goal
use Rattle.constriction_base.proofs.WordLists.{words-append}
use Rattle.constriction_queue.proofs.SealedRuns.{words-sealed}

pub returns : goal.returns
returns g c = λ w s items last rest z two ms words h.
    read_before w s items last rest z two ms words h
    (λ within. c.decodes_undo_encodes.ensures.back w s (sealed w s last ++ rest) items (initial s) last z (words-append w (sealed w s last) rest (words-sealed w s last) words) ms (valid_start w s z) h within)
