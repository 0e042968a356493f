use Rattle.constriction_c.proofs.quantized.u32.constriction_weights_of_floats_u32.Goals as goal

pub returns : goal.returns
returns c = rw c.code_without_space.ensures c.put_weights_of_floats.ensures.call
