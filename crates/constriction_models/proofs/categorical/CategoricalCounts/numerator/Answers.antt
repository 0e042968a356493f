use Rattle.std.proofs.Common.{◌+◌, ◌*◌, arith, ap, length}
use Rattle.constriction_models.proofs.Searching.{scaled_fits}
use Rattle.constriction_models.proofs.categorical.CategoricalCounts.numerator.Goals as goal

pub overflow_mul-result : goal.overflow_mul-result
overflow_mul-result g c =
    let m = c.args.self.now in
    omega (arith, scaled_fits g.row.PRECISION m.spare m.total (length m.counts.now) c.args.before c.args.symbol m.few (omega (arith, m.most, m.summed)) m.shared (omega (arith, c.requires.total, m.summed)) c.requires.within)

pub overflow_mul-result-2 : goal.overflow_mul-result-2
overflow_mul-result-2 g c =
    let m = c.args.self.now in
    omega (arith, scaled_fits g.row.PRECISION m.spare m.total (length m.counts.now) c.args.before c.args.symbol m.few (omega (arith, m.most, m.summed)) m.shared (omega (arith, c.requires.total, m.summed)) c.requires.within)

pub overflow_add-result : goal.overflow_add-result
overflow_add-result g c =
    let m = c.args.self.now in
    omega (arith, scaled_fits g.row.PRECISION m.spare m.total (length m.counts.now) c.args.before c.args.symbol m.few (omega (arith, m.most, m.summed)) m.shared (omega (arith, c.requires.total, m.summed)) c.requires.within)

pub returns : goal.returns
returns g c = ap (λ n. c.args.before * c.args.self.now.spare + c.args.symbol * n) c.args.self.now.summed
