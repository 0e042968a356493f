-- Written by tools/sizes from Answers.antt.
use Rattle.std.proofs.Common.{refl}
use Rattle.constriction_c.proofs.Told.{puts_told}
use Rattle.constriction_c.proofs.range.u16_kinds.constriction_range_encode_shorts_u16.Goals as goal

pub returns : goal.returns
returns c = puts_told c.code_of.result c.args.needed.now c.code_of.new.needed refl c.parts-parts.ensures c.of.ensures c.code_of.ensures.code c.code_of.ensures.needed c.encode_by_weights-answer.ensures.call
