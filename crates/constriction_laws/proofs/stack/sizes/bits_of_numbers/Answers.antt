use Rattle.constriction_stack.proofs.SizesCounted.{bit_count_is}
use Rattle.constriction_laws.proofs.stack.sizes.bits_of_numbers.Goals as goal

pub returns : goal.returns
returns c = bit_count_is
