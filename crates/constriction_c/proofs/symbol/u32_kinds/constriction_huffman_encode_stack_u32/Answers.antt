use Rattle.constriction_c.proofs.symbol.u32_kinds.constriction_huffman_encode_stack_u32.Goals as goal

pub returns : goal.returns
returns c = (rw c.code_of.ensures.code c.encode_stack-answer.ensures.call, rw c.code_of.ensures.code c.code_of.ensures.needed)
