use Rattle.std.proofs.Common.{refl}
use Rattle.constriction_c.proofs.Told.{chain_puts}
use Rattle.constriction_c.proofs.chain.u32_kinds.constriction_chain_encode_indexed_reverse_u32.Goals as goal

pub returns : goal.returns
returns c = chain_puts c.code_of.result c.args.needed.now c.code_of.new.needed refl c.parts-both.ensures c.of.ensures c.code_of.ensures.code c.code_of.ensures.needed c.encode_reverse-answer.ensures.call
