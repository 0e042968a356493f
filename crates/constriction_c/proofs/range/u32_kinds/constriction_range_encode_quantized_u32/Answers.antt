use Rattle.std.proofs.Common.{w32, ℕ, List, ap}
use Rattle.std.proofs.lemmas.Int.{to_z-of_z}
use Rattle.constriction_inputs.specs.Coded.{Coded}
use Rattle.constriction_c.proofs.Told.{family_is, puts_told}
use Rattle.constriction_c.proofs.range.u32_kinds.constriction_range_encode_quantized_u32.Goals as goal

pub returns : goal.returns
returns c =
    puts_told c.code_of.result c.args.needed.now c.code_of.new.needed (ap (λ (coded : List ℕ → Coded). coded c.args.symbols.now) (family_is c.new-models.ensures.numbers c.new-models.ensures.lists (to_z-of_z w32 c.args.min c.ranges.min) (to_z-of_z w32 c.args.max c.ranges.max))) c.parts-parts.ensures c.of.ensures
    c.code_of.ensures.code c.code_of.ensures.needed c.encode-answer.ensures.call
