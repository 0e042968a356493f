use Rattle.constriction_laws.proofs.of_symbol.bit_coders.Words.{one_list_of_queue}
use Rattle.constriction_laws.proofs.symbol.words.one_list_of_queue_words.Goals as goal

pub returns : goal.returns
returns c = one_list_of_queue
