use Rattle.constriction_c.proofs.ans.u32.constriction_ans_into_compressed_u32.Goals as goal

pub returns : goal.returns
returns c = (rw c.code_of.ensures.code c.into_compressed.ensures, rw c.code_of.ensures.code c.code_of.ensures.needed)
