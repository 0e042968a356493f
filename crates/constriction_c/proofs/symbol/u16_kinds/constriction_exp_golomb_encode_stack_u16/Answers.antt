-- Written by tools/sizes from Answers.antt.
use Rattle.constriction_c.proofs.symbol.u16_kinds.constriction_exp_golomb_encode_stack_u16.Goals as goal

pub returns : goal.returns
returns c = (rw c.code_of.ensures.code c.encode_stack-answer.ensures.call, rw c.code_of.ensures.code c.code_of.ensures.needed)
