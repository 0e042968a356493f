use Rattle.std.specs.Prelude.{◌*◌}
use Rattle.std.proofs.Common.{arith, ap, ◌∙◌}
use Rattle.std.proofs.lemmas.Int.{ints}
use Rattle.constriction_models.specs.Interpolation.{scaled}
use Rattle.constriction_models.proofs.Locating.{same_located}
use Rattle.constriction_models.proofs.location_scale.LocationScaleCumulativeDistribution.cumulative.Goals as goal

pub returns : goal.returns
unfolding scaled
returns g c =
    let d = c.args.self.now in
    c.interpolate.ensures ∙ same_located _ _ _ _ _ _ _ d.location _ c.args.place c.table.ensures (ap (λ n. n * d.scale) c.WIDTH.ensures) d.rated (omega (arith, ints)) (omega (arith, ints))
