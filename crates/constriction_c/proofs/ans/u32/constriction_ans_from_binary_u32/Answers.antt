use Rattle.constriction_c.proofs.ans.u32.constriction_ans_from_binary_u32.Goals as goal

pub returns : goal.returns
returns c = rw c.code_without_space.ensures c.from_binary.ensures
