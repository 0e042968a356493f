-- Written by tools/sizes from Answers.antt.
use Rattle.constriction_c.proofs.symbol.u16.constriction_exp_golomb_decode_queue_u16.Goals as goal

pub returns : goal.returns
returns c = rw c.code_without_space.ensures c.decode_queue.ensures.call
