use Rattle.constriction_c.proofs.store.u32.constriction_store_build_u32.Goals as goal

pub returns : goal.returns
returns c = (rw c.code_of.ensures.code c.build.ensures.call, rw c.code_of.ensures.code c.code_of.ensures.needed)
