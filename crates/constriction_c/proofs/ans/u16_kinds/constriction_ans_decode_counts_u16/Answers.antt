-- Written by tools/sizes from Answers.antt.
use Rattle.std.proofs.Common.{refl}
use Rattle.constriction_c.proofs.Told.{ans_takes}
use Rattle.constriction_c.proofs.ans.u16_kinds.constriction_ans_decode_counts_u16.Goals as goal

pub returns : goal.returns
returns c = ans_takes refl c.code_without_space.ensures c.decode-answer.ensures.call
