use Rattle.std.specs.Prelude.{◌≤◌}
use Rattle.std.proofs.Common.{arith}
use Rattle.constriction_models.proofs.Dividing.{quotient_fits}
use Rattle.constriction_models.proofs.Sharing.{divided_whole, divided_over, raised_few}
use Rattle.constriction_models.proofs.counts.Share.part.Goals as goal

pub overflow_add-result : goal.overflow_add-result
overflow_add-result c =
    let s = c.args.self.now in
    let kept_fits : c.keep_from_limit.result ≤ s.rest = omega (arith, c.keep_from_limit.ensures, c.requires) in
    omega (arith, c.div_rem-whole.ensures.whole, quotient_fits c.keep_from_limit.result s.mass s.rest kept_fits s.some, c.raise_below_limit.ensures, raised_few s.limit c.args.count, s.small)

pub returns-clause-whole : goal.returns-clause-whole
returns-clause-whole c =
    let s = c.args.self.now in
    divided_whole s.limit s.mass s.rest c.args.count c.keep_from_limit.result c.raise_below_limit.result c.div_rem-whole.result.0 s.some c.keep_from_limit.ensures c.raise_below_limit.ensures c.div_rem-whole.ensures.whole

pub returns-clause-over : goal.returns-clause-over
returns-clause-over c =
    let s = c.args.self.now in
    divided_over s.limit s.mass s.rest c.args.count c.keep_from_limit.result c.div_rem-whole.result.1 s.some c.keep_from_limit.ensures c.div_rem-whole.ensures.over
