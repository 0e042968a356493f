use Rattle.constriction_laws.proofs.of_symbol.bit_coders.Words.{one_list_of_stack}
use Rattle.constriction_laws.proofs.symbol.words.one_list_of_stack_words.Goals as goal

pub returns : goal.returns
returns c = one_list_of_stack
