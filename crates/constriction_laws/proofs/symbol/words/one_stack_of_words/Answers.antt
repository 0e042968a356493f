use Rattle.constriction_symbol.proofs.Words.{one_stack}
use Rattle.constriction_laws.proofs.symbol.words.one_stack_of_words.Goals as goal

pub returns : goal.returns
returns c = one_stack
