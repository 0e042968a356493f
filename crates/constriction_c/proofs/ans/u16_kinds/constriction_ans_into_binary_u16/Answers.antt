-- Written by tools/sizes from Answers.antt.
use Rattle.constriction_c.proofs.ans.u16_kinds.constriction_ans_into_binary_u16.Goals as goal

pub returns : goal.returns
returns c = (rw c.code_of.ensures.code c.into_binary.ensures, rw c.code_of.ensures.code c.code_of.ensures.needed)
