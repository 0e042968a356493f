use Rattle.std.proofs.Common.{sym}
use Rattle.constriction_c.proofs.chain.u32_kinds.constriction_chain_from_remainders_u32.Goals as goal

pub returns : goal.returns
returns c = rw (sym c.parts-both.ensures, c.of.ensures, c.code_without_space.ensures) c.from_words-answer.ensures.call
