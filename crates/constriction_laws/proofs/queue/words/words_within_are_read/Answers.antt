use Rattle.constriction_queue.proofs.ReadingRuns.{law_reads}
use Rattle.constriction_laws.proofs.queue.words.words_within_are_read.Goals as goal

pub returns : goal.returns
returns c = λ w s words first others z h hs. law_reads w s words z h first others hs
