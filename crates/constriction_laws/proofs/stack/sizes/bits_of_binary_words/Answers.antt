use Rattle.constriction_stack.proofs.SizesCounted.{valid_bits_of_binary}
use Rattle.constriction_laws.proofs.stack.sizes.bits_of_binary_words.Goals as goal

pub returns : goal.returns
returns c = valid_bits_of_binary
