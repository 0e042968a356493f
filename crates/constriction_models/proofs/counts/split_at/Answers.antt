use Rattle.std.specs.Prelude.{◌<◌, length}
use Rattle.std.proofs.Common.{arith}
use Rattle.constriction_models.proofs.Sharing.{kept_fit, ones_fit, raised_few}
use Rattle.constriction_models.specs.Counts.{raised, kept}
use Rattle.std.proofs.lemmas.List.Sums.{sum_by_more_le, sum_by-take-le}
use Rattle.constriction_models.proofs.counts.split_at.Goals as goal

pub overflow_add-raised : goal.overflow_add-raised
overflow_add-raised c =
    let inside : c.loop-count.count-index < length c.args.counts.now = omega arith in
    omega (arith, c.raise_below_limit-raised.ensures, c.loop-count.invariant.raised, ones_fit (raised c.args.limit) c.args.counts.now c.loop-count.count-index (raised_few c.args.limit) inside)

pub overflow_add-rest : goal.overflow_add-rest
overflow_add-rest c =
    let inside : c.loop-count.count-index < length c.args.counts.now = omega arith in
    omega (arith, c.keep_from_limit.ensures, c.loop-count.invariant.rest, kept_fit c.args.limit c.args.counts.now (λ k. omega (arith, c.type_inv.counts k)) (omega arith), sum_by_more_le (kept c.args.limit) c.args.counts.now c.loop-count.count-index 0 inside)

pub returns-clause-fits : goal.returns-clause-fits
returns-clause-fits c =
    let all = kept_fit c.args.limit c.args.counts.now (λ k. omega (arith, c.type_inv.counts k)) (omega arith) in
    omega (arith, c.loop-count.invariant.rest, all, sum_by-take-le (kept c.args.limit) c.args.counts.now c.loop-count.count-index)
