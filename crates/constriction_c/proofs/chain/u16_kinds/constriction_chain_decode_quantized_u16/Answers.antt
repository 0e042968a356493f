-- Written by tools/sizes from Answers.antt.
use Rattle.std.proofs.Common.{w32}
use Rattle.std.proofs.lemmas.Int.{to_z-of_z}
use Rattle.constriction_c.proofs.Told.{chain_takes, family_is}
use Rattle.constriction_c.proofs.chain.u16_kinds.constriction_chain_decode_quantized_u16.Goals as goal

pub returns : goal.returns
returns c =
    chain_takes c.code_of.result c.args.needed.now c.code_of.new.needed (family_is c.new-models.ensures.numbers c.new-models.ensures.lists (to_z-of_z w32 c.args.min c.ranges.min) (to_z-of_z w32 c.args.max c.ranges.max))
    c.parts-both.ensures c.of.ensures c.code_of.ensures.code c.code_of.ensures.needed c.decode-answer.ensures.call
