-- Written by tools/sizes from Answers.antt.
use Rattle.std.proofs.Common.{w32}
use Rattle.std.proofs.lemmas.Int.{to_z-of_z}
use Rattle.constriction_c.proofs.quantized.u16.constriction_quantized_intervals_u16.Goals as goal

pub returns : goal.returns
returns c =
    let numbers = c.new-models.ensures.numbers in
    let lists = c.new-models.ensures.lists in
    rw c.code_without_space.ensures
    (rw (numbers.0, numbers.1, numbers.2, to_z-of_z w32 c.args.min c.ranges.min, to_z-of_z w32 c.args.max c.ranges.max, lists.0, lists.1) at c.intervals_of_quantized.ensures.call)
