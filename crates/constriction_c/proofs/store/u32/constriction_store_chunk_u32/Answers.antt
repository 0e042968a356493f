use Rattle.constriction_c.proofs.store.u32.constriction_store_chunk_u32.Goals as goal

pub returns : goal.returns
returns c = rw c.code_without_space.ensures c.chunk.ensures.call
