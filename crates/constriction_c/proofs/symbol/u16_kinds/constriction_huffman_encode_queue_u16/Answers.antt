-- Written by tools/sizes from Answers.antt.
use Rattle.constriction_c.proofs.symbol.u16_kinds.constriction_huffman_encode_queue_u16.Goals as goal

pub returns : goal.returns
returns c = (rw c.code_of.ensures.code c.encode_queue-answer.ensures.call, rw c.code_of.ensures.code c.code_of.ensures.needed)
