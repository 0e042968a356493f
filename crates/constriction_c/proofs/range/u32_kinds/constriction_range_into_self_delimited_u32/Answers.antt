use Rattle.std.proofs.Common.{sym}
use Rattle.constriction_c.proofs.range.u32_kinds.constriction_range_into_self_delimited_u32.Goals as goal

pub returns : goal.returns
returns c = (rw (sym c.parts.ensures, c.code_of.ensures.code) c.into_self_delimited-answer.ensures.call, rw c.code_of.ensures.code c.code_of.ensures.needed)
