-- Written by tools/sizes from Answers.antt.
use Rattle.constriction_c.proofs.quantized.u16.constriction_weights_of_counts_u16.Goals as goal

pub returns : goal.returns
returns c = rw c.code_without_space.ensures c.put_weights_of_counts.ensures.call
