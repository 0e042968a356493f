use Rattle.constriction_queue.proofs.SelfDelimited.{one_list, self_words}
use Rattle.constriction_queue.proofs.Followed.{self_end, two_words_same}
use Rattle.constriction_laws.proofs.queue.following.self_delimiting_words.Goals as goal

pub returns-clause-one : goal.returns-clause-one
returns-clause-one g c = λ w s last words others are they. one_list w s last others words they are

pub returns-clause-words : goal.returns-clause-words
returns-clause-words g c = self_words

pub returns-clause-two_words : goal.returns-clause-two_words
returns-clause-two_words g c = λ w s items last words z two ms h are. two_words_same w s z items last words two ms h are

pub returns-clause-exhausted : goal.returns-clause-exhausted
returns-clause-exhausted g c = λ w s items last words z ms h are. self_end w s z items last words ms h are
