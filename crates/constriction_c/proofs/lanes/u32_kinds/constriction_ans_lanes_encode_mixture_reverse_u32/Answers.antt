use Rattle.std.proofs.Common.{w32, ℕ, List, ap}
use Rattle.std.proofs.lemmas.Int.{to_z-of_z}
use Rattle.constriction_inputs.specs.Coded.{Coded}
use Rattle.constriction_c.proofs.Told.{lanes_put, mixture_is}
use Rattle.constriction_c.proofs.lanes.u32_kinds.constriction_ans_lanes_encode_mixture_reverse_u32.Goals as goal

pub returns : goal.returns
returns c =
    lanes_put c.code_of.result c.args.needed.now c.code_of.new.needed
    (ap (λ (coded : List ℕ → Coded). coded c.args.symbols.now) (mixture_is c.new-components.ensures.numbers c.new-components.ensures.lists c.new-models.ensures (to_z-of_z w32 c.args.min c.ranges.min) (to_z-of_z w32 c.args.max c.ranges.max)))
    c.code_of.ensures.code c.code_of.ensures.needed c.encode_reverse-answer.ensures.call
