use Rattle.std.proofs.Common.{◌≡◌, ◌*◌, take}
use Rattle.std.specs.List.{sum_by}
use Rattle.constriction_models.proofs.mixture.MixtureCumulativeDistribution.cumulative.Given as goal

abbrev pub invariant-loop-component : goal.invariant-loop-component
invariant-loop-component g l = l.sum ≡ sum_by (λ c. c.weight * g.D.CumulativeDistribution.below c.distribution l.place) (take l.component-index l.self.components.now)
