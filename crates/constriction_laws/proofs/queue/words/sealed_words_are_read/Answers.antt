use Rattle.constriction_queue.proofs.SealedRuns.{sealed_reads_alone, sealed_reads_followed, words-sealed}
use Rattle.constriction_laws.proofs.queue.words.sealed_words_are_read.Goals as goal

pub returns-clause-alone : goal.returns-clause-alone
returns-clause-alone c = sealed_reads_alone

pub returns-clause-followed : goal.returns-clause-followed
returns-clause-followed c = sealed_reads_followed

pub returns-clause-words : goal.returns-clause-words
returns-clause-words c = words-sealed
