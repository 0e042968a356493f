use Rattle.std.proofs.Common.{arith, length}
use Rattle.std.proofs.lemmas.List.Sums.{sum_by-take-le}
use Rattle.constriction_models.specs.Cumulative.{differences}
use Rattle.constriction_models.proofs.Searching.{scaled_fits}
use Rattle.constriction_models.proofs.cumulative.CumulativeCounts.numerator.Goals as goal

pub overflow_mul-result : goal.overflow_mul-result
overflow_mul-result g c =
    let m = c.args.self.now in
    let counts = differences m.sums.items in
    omega (arith, scaled_fits g.row.PRECISION m.spare m.total (length counts) c.sum_before.result c.args.symbol m.few (omega (arith, m.most, m.summed)) m.shared (omega (arith, c.sum_before.ensures, m.summed, sum_by-take-le (λ x. x) counts c.args.symbol)) c.requires)

pub overflow_mul-result-2 : goal.overflow_mul-result-2
overflow_mul-result-2 g c =
    let m = c.args.self.now in
    let counts = differences m.sums.items in
    omega (arith, scaled_fits g.row.PRECISION m.spare m.total (length counts) c.sum_before.result c.args.symbol m.few (omega (arith, m.most, m.summed)) m.shared (omega (arith, c.sum_before.ensures, m.summed, sum_by-take-le (λ x. x) counts c.args.symbol)) c.requires)

pub overflow_add-result : goal.overflow_add-result
overflow_add-result g c =
    let m = c.args.self.now in
    let counts = differences m.sums.items in
    omega (arith, scaled_fits g.row.PRECISION m.spare m.total (length counts) c.sum_before.result c.args.symbol m.few (omega (arith, m.most, m.summed)) m.shared (omega (arith, c.sum_before.ensures, m.summed, sum_by-take-le (λ x. x) counts c.args.symbol)) c.requires)
