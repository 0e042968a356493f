use Rattle.constriction_c.proofs.symbol.u32_kinds.constriction_huffman_decode_queue_u32.Goals as goal

pub returns : goal.returns
returns c = rw c.code_without_space.ensures c.decode_queue.ensures.call
