-- Written by tools/sizes from Answers.antt.
use Rattle.constriction_c.proofs.store.u16.constriction_store_build_u16.Goals as goal

pub returns : goal.returns
returns c = (rw c.code_of.ensures.code c.build.ensures.call, rw c.code_of.ensures.code c.code_of.ensures.needed)
