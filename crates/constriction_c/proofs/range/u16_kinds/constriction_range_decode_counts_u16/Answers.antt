-- Written by tools/sizes from Answers.antt.
use Rattle.std.proofs.Common.{refl}
use Rattle.constriction_c.proofs.Told.{takes_told}
use Rattle.constriction_c.proofs.range.u16_kinds.constriction_range_decode_counts_u16.Goals as goal

pub returns : goal.returns
returns c = takes_told refl c.parts-parts.ensures c.of.ensures c.code_without_space.ensures c.decode-answer.ensures.call
