use Rattle.std.proofs.Common.{refl}
use Rattle.constriction_c.proofs.Told.{ans_takes}
use Rattle.constriction_c.proofs.ans.u32_kinds.constriction_ans_decode_bytes_u32.Goals as goal

pub returns : goal.returns
returns c = ans_takes refl c.code_without_space.ensures c.decode_narrow-answer.ensures.call
