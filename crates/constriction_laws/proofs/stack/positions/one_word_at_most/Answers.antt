use Rattle.constriction_stack.proofs.PositionsKept.{push_words}
use Rattle.constriction_laws.proofs.stack.positions.one_word_at_most.Goals as goal

pub returns : goal.returns
returns c = push_words
