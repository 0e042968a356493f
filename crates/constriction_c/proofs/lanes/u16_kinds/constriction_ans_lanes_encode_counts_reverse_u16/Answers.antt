-- Written by tools/sizes from Answers.antt.
use Rattle.std.proofs.Common.{refl}
use Rattle.constriction_c.proofs.Told.{lanes_put}
use Rattle.constriction_c.proofs.lanes.u16_kinds.constriction_ans_lanes_encode_counts_reverse_u16.Goals as goal

pub returns : goal.returns
returns c = lanes_put c.code_of.result c.args.needed.now c.code_of.new.needed refl c.code_of.ensures.code c.code_of.ensures.needed c.encode_reverse-answer.ensures.call
