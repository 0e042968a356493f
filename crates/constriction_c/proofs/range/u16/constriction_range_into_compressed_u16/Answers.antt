-- Written by tools/sizes from Answers.antt.
use Rattle.std.proofs.Common.{sym}
use Rattle.constriction_c.proofs.range.u16.constriction_range_into_compressed_u16.Goals as goal

pub returns : goal.returns
returns c = (rw (sym c.parts.ensures, c.code_of.ensures.code) c.into_compressed-answer.ensures.call, rw c.code_of.ensures.code c.code_of.ensures.needed)
