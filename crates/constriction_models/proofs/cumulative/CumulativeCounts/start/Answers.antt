use Rattle.std.proofs.Common.{◌^◌, ◌≤◌, arith}
use Rattle.std.proofs.Math.Nat.{div-le_of_le-mul, mul-le-mul_right}
use Rattle.std.proofs.lemmas.List.Sums.{sum_by-take-le}
use Rattle.constriction_base.proofs.Sizes.{pow_le}
use Rattle.constriction_models.specs.Cumulative.{differences}
use Rattle.constriction_models.specs.laws.Categorical.{start_is}
use Rattle.constriction_models.proofs.Searching.{scaled_fits}
use Rattle.constriction_models.proofs.cumulative.CumulativeCounts.start.Goals as goal

pub overflow_mul-shared : goal.overflow_mul-shared
overflow_mul-shared g c =
    let m = c.args.self.now in
    let less : c.sum_before.result ≤ m.total = omega (arith, sum_by-take-le (λ x. x) (differences m.sums.items) c.args.symbol, c.sum_before.ensures, m.summed) in
    omega (arith, scaled_fits g.row.PRECISION m.spare m.total _ c.sum_before.result 0 m.few (omega (arith, m.most, m.summed)) m.shared less (omega arith))

pub overflow_add-result : goal.overflow_add-result
overflow_add-result g c =
    let m = c.args.self.now in
    let less : c.sum_before.result ≤ m.total = omega (arith, sum_by-take-le (λ x. x) (differences m.sums.items) c.args.symbol, c.sum_before.ensures, m.summed) in
    omega (arith, c.quotient.ensures, div-le_of_le-mul m.total (mul-le-mul_right m.spare less), m.shared, c.requires, pow_le g.row.PRECISION 24 m.few)

pub returns : goal.returns
returns g c =
    let m = c.args.self.now in
    rw c.quotient.ensures (start_is (2 ^ g.row.PRECISION) m.spare m.total (differences m.sums.items) c.args.symbol c.sum_before.result m.shared m.summed c.sum_before.ensures)
