use Rattle.std.specs.Prelude.{◌-◌}
use Rattle.std.proofs.Common.{◌∙◌, arith}
use Rattle.constriction_models.proofs.Estimating.{estimates_fit, estimates_rounded}
use Rattle.constriction_models.proofs.counts.Share.round_estimates.Goals as goal

pub round_all-requires-clause-fit : goal.round_all-requires-clause-fit
round_all-requires-clause-fit c =
    let s = c.args.self.now in
    estimates_fit c.args.counts.now c.deref.result.now s.limit s.mass s.rest (c.deref.ensures.value ∙ c.in_ok-estimates.ensures) c.requires s.small

pub returns-then-made-all : goal.returns-then-made-all
returns-then-made-all c =
    let s = c.args.self.now in
    let made = c.in_ok-made.made in
    let is = c.in_ok-made.ensures in
    estimates_rounded c.args.counts.now c.deref.result.now made.weights.items s.limit s.mass s.rest c.args.all c.in_ok-bound.bound (4294967296 - c.in_ok-bound.bound) made.total s.some (omega (arith, c.if-bound-eq0.false)) (omega (arith, c.in_ok-bound.ensures)) (c.deref.ensures.value ∙ c.in_ok-estimates.ensures) is.weights is.total c.if-made-all.true (is.clear c.if-made.true) (λ k. omega (arith, c.type_inv.counts k))
