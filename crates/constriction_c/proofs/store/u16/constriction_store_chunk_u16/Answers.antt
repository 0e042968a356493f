-- Written by tools/sizes from Answers.antt.
use Rattle.constriction_c.proofs.store.u16.constriction_store_chunk_u16.Goals as goal

pub returns : goal.returns
returns c = rw c.code_without_space.ensures c.chunk.ensures.call
