use Rattle.std.specs.Prelude.{◌<◌, ◌+◌, length}
use Rattle.std.proofs.Common.{arith}
use Rattle.constriction_models.proofs.Sharing.{ones_fit}
use Rattle.constriction_models.proofs.Dividing.{reach_few}
use Rattle.constriction_models.specs.Counts.{reaches}
use Rattle.constriction_models.proofs.counts.count_above.Goals as goal

pub overflow_add-total : goal.overflow_add-total
overflow_add-total c =
    let inside : c.loop-measure.measure-index < length c.args.measures.now = omega arith in
    omega (arith, c.exceeds_one-total.ensures, ones_fit (reaches (c.args.least + 1)) c.args.measures.now c.loop-measure.measure-index (reach_few (c.args.least + 1)) inside)
