-- Written by tools/sizes from Answers.antt.
use Rattle.std.proofs.Common.{sym}
use Rattle.constriction_c.proofs.range.u16.constriction_range_seek_u16.Goals as goal

pub returns : goal.returns
returns c = rw (sym c.parts-parts.ensures, c.of.ensures, c.code_without_space.ensures) c.seek-answer.ensures.call
