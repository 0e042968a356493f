use Rattle.std.proofs.Common.{sym}
use Rattle.constriction_c.proofs.chain.u32_kinds.constriction_chain_into_binary_u32.Goals as goal

pub returns : goal.returns
returns c = (rw (sym c.parts-parts.ensures, c.code_of.ensures.code) c.into_words-answer.ensures.call, rw c.code_of.ensures.code c.code_of.ensures.needed)
