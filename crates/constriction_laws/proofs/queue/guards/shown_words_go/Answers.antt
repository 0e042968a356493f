use Rattle.std.proofs.Common.{ap}
use Rattle.constriction_queue.specs.Range.{sealed}
use Rattle.constriction_queue.proofs.Sealing.{run_of_left}
use Rattle.constriction_laws.proofs.queue.guards.shown_words_go.Goals as goal

pub returns-clause-run : goal.returns-clause-run
returns-clause-run g c = λ w s count encoder shown left heads back taken. run_of_left w s count encoder shown left heads back taken

pub returns-clause-words : goal.returns-clause-words
returns-clause-words g c = λ w s count encoder shown left heads back taken. ap (λ r. sealed w s r) (run_of_left w s count encoder shown left heads back taken)
