-- Written by tools/sizes from Answers.antt.
use Rattle.std.proofs.Common.{w32, ℕ, List, ap}
use Rattle.std.proofs.lemmas.Int.{to_z-of_z}
use Rattle.constriction_inputs.specs.Coded.{Coded}
use Rattle.constriction_c.proofs.Told.{lanes_put, family_is}
use Rattle.constriction_c.proofs.lanes.u16_kinds.constriction_ans_lanes_encode_quantized_reverse_u16.Goals as goal

pub returns : goal.returns
returns c =
    lanes_put c.code_of.result c.args.needed.now c.code_of.new.needed
    (ap (λ (coded : List ℕ → Coded). coded c.args.symbols.now) (family_is c.new-models.ensures.numbers c.new-models.ensures.lists (to_z-of_z w32 c.args.min c.ranges.min) (to_z-of_z w32 c.args.max c.ranges.max)))
    c.code_of.ensures.code c.code_of.ensures.needed c.encode_reverse-answer.ensures.call
