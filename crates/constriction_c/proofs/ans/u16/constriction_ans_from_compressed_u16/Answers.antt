-- Written by tools/sizes from Answers.antt.
use Rattle.constriction_c.proofs.ans.u16.constriction_ans_from_compressed_u16.Goals as goal

pub returns : goal.returns
returns c = rw c.code_without_space.ensures c.from_compressed.ensures
