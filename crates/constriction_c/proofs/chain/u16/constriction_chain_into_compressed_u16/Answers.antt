-- Written by tools/sizes from Answers.antt.
use Rattle.std.proofs.Common.{sym}
use Rattle.constriction_c.proofs.chain.u16.constriction_chain_into_compressed_u16.Goals as goal

pub returns : goal.returns
returns c = (rw (sym c.parts-parts.ensures, c.code_of.ensures.code) c.into_words-answer.ensures.call, rw c.code_of.ensures.code c.code_of.ensures.needed)
