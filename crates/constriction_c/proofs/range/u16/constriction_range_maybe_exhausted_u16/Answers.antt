-- Written by tools/sizes from Answers.antt.
use Rattle.std.proofs.Common.{sym}
use Rattle.constriction_c.proofs.range.u16.constriction_range_maybe_exhausted_u16.Goals as goal

pub returns : goal.returns
returns c = rw (sym c.parts.ensures, c.code_without_space.ensures) c.maybe_exhausted.ensures.call
