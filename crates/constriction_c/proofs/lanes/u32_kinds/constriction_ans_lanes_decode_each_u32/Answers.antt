use Rattle.std.proofs.Common.{refl}
use Rattle.constriction_c.proofs.Told.{lanes_taken}
use Rattle.constriction_c.proofs.lanes.u32_kinds.constriction_ans_lanes_decode_each_u32.Goals as goal

pub returns : goal.returns
returns c = lanes_taken refl c.code_without_space.ensures c.decode-answer.ensures.call
