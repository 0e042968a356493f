use Rattle.std.proofs.Common.{[], refl}
use Rattle.constriction_queue.specs.Range.{initial}
use Rattle.constriction_queue.specs.Flagged.{flagged}
use Rattle.constriction_laws.proofs.of_queue.Flagging.{are_flagged}
use Rattle.constriction_laws.proofs.queue.flagged.flagged_symbols_come_back.Goals as goal

pub returns : goal.returns
returns c = λ w s flag first second symbols words rest last sizes m n fit coded are.
    c.symbols_come_back_whatever_follows.ensures w s [] (flagged flag first second symbols) (initial s) last words rest sizes tt (are_flagged w flag first second m n symbols) fit refl coded are
