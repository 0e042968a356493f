use Rattle.std.proofs.Common.{◌≤◌, ◌∙◌, arith}
use Rattle.constriction_models.proofs.Sharing.{raised_few}
use Rattle.constriction_models.proofs.Estimating.{estimate_of, product_fits}
use Rattle.constriction_models.proofs.counts.Share.estimate.Goals as goal

pub overflow_mul-result : goal.overflow_mul-result
overflow_mul-result c = omega (arith, c.raise_below_limit.ensures, raised_few c.args.self.now.limit c.args.count)

pub overflow_add-result : goal.overflow_add-result
overflow_add-result c =
    let s = c.args.self.now in
    let within : c.keep_from_limit.result ≤ s.rest = omega (arith, c.keep_from_limit.ensures, c.requires.within) in
    omega (arith, product_fits c.keep_from_limit.result s.mass s.rest c.args.rate within (c.requires.rated ∙ s.rated) s.small, c.raise_below_limit.ensures, raised_few s.limit c.args.count)

pub returns : goal.returns
returns c =
    let s = c.args.self.now in
    estimate_of s.limit s.mass s.rest c.args.count c.keep_from_limit.result c.raise_below_limit.result c.args.rate c.keep_from_limit.ensures c.raise_below_limit.ensures (c.requires.rated ∙ s.rated)
