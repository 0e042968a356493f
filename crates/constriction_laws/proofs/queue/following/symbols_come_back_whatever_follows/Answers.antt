use Rattle.std.specs.Prelude.{◌++◌}
use Rattle.constriction_queue.specs.Range.{initial}
use Rattle.constriction_queue.proofs.Narrowing.{valid_start}
use Rattle.constriction_queue.proofs.SelfDelimited.{self_words}
use Rattle.constriction_queue.proofs.Entries.{intervals}
use Rattle.constriction_queue.proofs.Followed.{read_whatever_follows}
use Rattle.constriction_laws.proofs.queue.following.symbols_come_back_whatever_follows.Goals as goal
use Rattle.constriction_base.proofs.WordLists.{words-append}

pub returns : goal.returns
returns g c = λ w s before since middle last words rest z bs ss fit h k are.
    let v = intervals w s before (initial s) middle z bs (valid_start w s z) h in
    read_whatever_follows w s z before since middle last words rest bs ss h k are fit
    (λ within. c.decodes_undo_encodes.ensures.back w s (words ++ rest) since middle last z (words-append w words rest (self_words w s last words are) fit) ss v k within)
