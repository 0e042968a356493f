use Rattle.std.proofs.Common.{◌≡◌, ◌+◌, ◌-◌, ◌^◌, ◌<◌, ◌≤◌, length, take, refl, arith, subst}
use Rattle.std.specs.List.{sum}
use Rattle.std.proofs.Math.Nat.{mul-le-mul_right}
use Rattle.constriction_models.specs.Categorical.{shared_start}
use Rattle.constriction_models.specs.Cumulative.{differences}
use Rattle.constriction_models.specs.laws.Categorical.{start_low, start_high}
use Rattle.constriction_models.proofs.Cumulating.{some_symbol, limit_within}
use Rattle.constriction_models.proofs.Searching.{limit_fits}
use Rattle.constriction_models.proofs.cumulative.CumulativeCounts.symbol_at.Goals as goal

pub overflow_mul-limit : goal.overflow_mul-limit
overflow_mul-limit g c =
    let m = c.args.self.now in
    let less : c.args.quantile + 1 ≤ 2 ^ g.row.PRECISION = omega (arith, c.requires) in
    omega (arith, mul-le-mul_right m.total less, limit_fits g.row.PRECISION m.total m.few (omega (arith, m.summed, m.most)))

pub loop-high-init : goal.loop-high-init
loop-high-init g c =
    let m = c.args.self.now in
    let counts = differences m.sums.items in
    let last : c.len-high.result - 1 ≡ length counts = omega (arith, m.listed.len, c.len-high.ensures, m.sums.ok.0) in
    record {
      order = omega (arith, last, some_symbol counts m.some);
      within = omega (arith, last);
      above = omega (arith, m.some);
      below = rw last (limit_within (2 ^ g.row.PRECISION) m.spare c.args.quantile counts m.shared c.requires);
    }

pub returns-clause-above : goal.returns-clause-above
returns-clause-above g c =
    let m = c.args.self.now in
    let l = c.loop-high in
    let counts = differences m.sums.items in
    start_low (2 ^ g.row.PRECISION) m.spare counts l.low (sum (take l.low counts)) c.args.quantile m.shared m.some refl l.invariant.above

pub returns-clause-below : goal.returns-clause-below
returns-clause-below g c =
    let m = c.args.self.now in
    let l = c.loop-high in
    let counts = differences m.sums.items in
    let next : l.high ≡ l.low + 1 = omega (arith, l.invariant.order, c.loop-high-test.false) in
    subst (λ n. c.args.quantile < shared_start (2 ^ g.row.PRECISION) counts n) next
    (start_high (2 ^ g.row.PRECISION) m.spare counts l.high (sum (take l.high counts)) c.args.quantile m.shared m.some refl l.invariant.below)
