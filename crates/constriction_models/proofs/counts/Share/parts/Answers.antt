use Rattle.std.specs.Prelude.{◌<◌, length}
use Rattle.std.proofs.Common.{arith}
use Rattle.std.proofs.lemmas.List.Sums.{get_or-le-sum_by, sum_by_more_le}
use Rattle.constriction_models.specs.Counts.{kept, whole}
use Rattle.constriction_models.proofs.counts.Share.parts.Goals as goal

pub part-whole-requires : goal.part-whole-requires
part-whole-requires c =
    let inside : c.loop-count.count-index < length c.args.counts.now = omega arith in
    omega (arith, get_or-le-sum_by (kept c.args.self.now.limit) c.args.counts.now c.loop-count.count-index 0 inside, c.requires.kept)

pub overflow_add-total : goal.overflow_add-total
overflow_add-total c =
    let s = c.args.self.now in
    let inside : c.loop-count.count-index < length c.args.counts.now = omega arith in
    omega (arith, c.part-whole.ensures.whole, c.loop-count.invariant.total, c.requires.small, sum_by_more_le (whole s.limit s.mass s.rest) c.args.counts.now c.loop-count.count-index 0 inside)
