-- Written by tools/sizes from Answers.antt.
use Rattle.std.proofs.Common.{w32}
use Rattle.std.proofs.lemmas.Int.{to_z-of_z}
use Rattle.constriction_c.proofs.Told.{lanes_taken, mixture_is}
use Rattle.constriction_c.proofs.lanes.u16_kinds.constriction_ans_lanes_decode_mixture_u16.Goals as goal

pub returns : goal.returns
returns c = lanes_taken (mixture_is c.new-components.ensures.numbers c.new-components.ensures.lists c.new-models.ensures (to_z-of_z w32 c.args.min c.ranges.min) (to_z-of_z w32 c.args.max c.ranges.max)) c.code_without_space.ensures c.decode-answer.ensures.call
