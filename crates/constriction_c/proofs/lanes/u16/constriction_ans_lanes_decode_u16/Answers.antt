-- Written by tools/sizes from Answers.antt.
use Rattle.std.proofs.Common.{refl}
use Rattle.constriction_c.proofs.Told.{lanes_taken}
use Rattle.constriction_c.proofs.lanes.u16.constriction_ans_lanes_decode_u16.Goals as goal

pub returns : goal.returns
returns c = lanes_taken refl c.code_without_space.ensures c.decode_by_weights-answer.ensures.call
