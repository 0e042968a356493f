use Rattle.constriction_queue.proofs.SelfDelimited.{self_reads}
use Rattle.constriction_laws.proofs.queue.following.self_delimiting_words_are_read.Goals as goal

pub returns : goal.returns
returns c = λ w s steps words rest z hs fit are. self_reads w s steps words rest z hs are fit
