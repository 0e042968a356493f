use Rattle.std.proofs.Common.{◌≡◌, ◌+◌, ◌-◌, ◌*◌, ◌^◌, ◌<◌, ◌≤◌, length, slice_index_or, arith, ap, subst}
use Rattle.std.specs.List.{sum}
use Rattle.std.proofs.Math.Nat.{mul-le-mul_right}
use Rattle.std.proofs.lemmas.List.Sums.{sum_by_more, sum_by_more_le}
use Rattle.constriction_models.specs.Categorical.{shared_start}
use Rattle.constriction_models.specs.laws.Categorical.{start_low, start_high, start_last}
use Rattle.constriction_models.proofs.Searching.{limit_fits}
use Rattle.constriction_models.proofs.categorical.CategoricalCounts.symbol_at.Goals as goal

pub overflow_mul-limit : goal.overflow_mul-limit
overflow_mul-limit g c =
    let m = c.args.self.now in
    let less : c.args.quantile + 1 ≤ 2 ^ g.row.PRECISION = omega (arith, c.requires) in
    omega (arith, mul-le-mul_right m.total less, limit_fits g.row.PRECISION m.total m.few (omega (arith, m.summed, m.most)))

pub numerator-requires : goal.numerator-requires
numerator-requires g c =
    let counts = c.args.self.now.counts.now in
    let l = c.loop-symbol in
    let inside : l.symbol < length counts = omega (arith, c.loop-symbol-test.true) in
    (omega arith, (omega (arith, inside), omega (arith, l.invariant.before, sum_by_more_le (λ x. x) counts l.symbol 0 inside)))

pub returns-then-numerator-limit-clause-above : goal.returns-then-numerator-limit-clause-above
returns-then-numerator-limit-clause-above g c =
    let m = c.args.self.now in
    start_low (2 ^ g.row.PRECISION) m.spare m.counts.now c.loop-symbol.symbol c.loop-symbol.before c.args.quantile m.shared m.some c.loop-symbol.invariant.before c.loop-symbol.invariant.low

pub returns-then-numerator-limit-clause-below : goal.returns-then-numerator-limit-clause-below
returns-then-numerator-limit-clause-below g c =
    let m = c.args.self.now in
    let l = c.loop-symbol in
    let inside : l.symbol < length m.counts.now = omega (arith, c.loop-symbol-test.true) in
    let is : (c.args.quantile + 1) * m.total ≡ (c.args.quantile + 1) * sum m.counts.now = ap (λ n. (c.args.quantile + 1) * n) m.summed in
    start_high (2 ^ g.row.PRECISION) m.spare m.counts.now (l.symbol + 1) (l.before + slice_index_or m.counts.now l.symbol 0) c.args.quantile m.shared m.some (omega (arith, l.invariant.before, sum_by_more (λ x. x) m.counts.now l.symbol 0 inside)) (omega (arith, is, c.numerator.ensures, c.if-numerator-limit.true))

pub returns-clause-above : goal.returns-clause-above
returns-clause-above g c =
    let m = c.args.self.now in
    let l = c.loop-symbol in
    let last : l.symbol ≡ length m.counts.now - 1 = omega (arith, l.auto.symbol, l.auto.symbol-end, c.loop-symbol-test.false, c.skip-first.ensures.within) in
    subst (λ n. shared_start (2 ^ g.row.PRECISION) m.counts.now n ≤ c.args.quantile) last
    (start_low (2 ^ g.row.PRECISION) m.spare m.counts.now l.symbol l.before c.args.quantile m.shared m.some l.invariant.before l.invariant.low)

pub returns-clause-below : goal.returns-clause-below
returns-clause-below g c =
    let m = c.args.self.now in
    let all : length m.counts.now ≡ length m.counts.now - 1 + 1 = omega (arith, c.skip-first.ensures.within) in
    let end = start_last (2 ^ g.row.PRECISION) m.counts.now (omega (arith, m.shared)) m.some in
    subst (λ n. c.args.quantile < shared_start (2 ^ g.row.PRECISION) m.counts.now n) all (omega (arith, end, c.requires))
