use Rattle.std.proofs.Common.{w32}
use Rattle.std.proofs.lemmas.Int.{to_z-of_z}
use Rattle.constriction_c.proofs.Told.{lanes_taken, family_is}
use Rattle.constriction_c.proofs.lanes.u32_kinds.constriction_ans_lanes_decode_quantized_u32.Goals as goal

pub returns : goal.returns
returns c = lanes_taken (family_is c.new-models.ensures.numbers c.new-models.ensures.lists (to_z-of_z w32 c.args.min c.ranges.min) (to_z-of_z w32 c.args.max c.ranges.max)) c.code_without_space.ensures c.decode-answer.ensures.call
