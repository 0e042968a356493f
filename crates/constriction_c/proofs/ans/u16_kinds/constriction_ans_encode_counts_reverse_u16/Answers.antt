-- Written by tools/sizes from Answers.antt.
use Rattle.std.proofs.Common.{refl}
use Rattle.constriction_c.proofs.Told.{ans_puts}
use Rattle.constriction_c.proofs.ans.u16_kinds.constriction_ans_encode_counts_reverse_u16.Goals as goal

pub returns : goal.returns
returns c = ans_puts c.code_of.result c.args.needed.now c.code_of.new.needed refl c.code_of.ensures.code c.code_of.ensures.needed c.encode_reverse-answer.ensures.call
