-- Written by tools/sizes from Answers.antt.
use Rattle.constriction_c.proofs.symbol.u16_kinds.constriction_huffman_decode_at_u16.Goals as goal

pub returns : goal.returns
returns c = rw c.code_without_space.ensures c.decode_at.ensures.call
