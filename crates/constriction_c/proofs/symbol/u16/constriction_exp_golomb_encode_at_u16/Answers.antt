-- Written by tools/sizes from Answers.antt.
use Rattle.constriction_c.proofs.symbol.u16.constriction_exp_golomb_encode_at_u16.Goals as goal

pub returns : goal.returns
returns c = (rw c.code_of.ensures.code c.encode_at-answer.ensures.call, rw c.code_of.ensures.code c.code_of.ensures.needed)
