-- Written by tools/sizes from Answers.antt.
use Rattle.std.proofs.Common.{sym}
use Rattle.constriction_c.proofs.chain.u16.constriction_chain_from_compressed_u16.Goals as goal

pub returns : goal.returns
returns c = rw (sym c.parts-both.ensures, c.of.ensures, c.code_without_space.ensures) c.from_words-answer.ensures.call
