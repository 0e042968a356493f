use Rattle.std.specs.Prelude.{◌≡◌, ◌*◌}
use Rattle.std.proofs.Common.{ap, arith, rules, to_z, of_z}
use Rattle.std.proofs.lemmas.Int.{to_z-of_z}
use mir.Syntax.{w64}
use Rattle.constriction_models.proofs.Means.{upto_within, upto_more, upto_all}
use Rattle.constriction_models.proofs.mixture.MixtureCumulativeDistribution.cumulative.Goals as goal

pub overflow_add-sum : goal.overflow_add-sum
overflow_add-sum g c =
    let m = c.args.self.now in
    let l = c.loop-component in
    let same : to_z w64 (of_z w64 c.args.place) ≡ c.args.place = to_z-of_z w64 c.args.place (search rules) in
    let most = upto_more g.D.CumulativeDistribution.below m.components.now c.args.place l.component-index l.sum c.component-item.result g.D.CumulativeDistribution.never_falls (omega arith) c.component-item.is (rw same at l.invariant) m.most in
    let value : c.cumulative.result ≡ g.D.CumulativeDistribution.below c.component-item.result.distribution c.args.place = rw same at c.cumulative.ensures in
    omega (arith, most, ap (λ n. c.component-item.result.weight * n) value)

pub mean-requires : goal.mean-requires
mean-requires g c =
    let m = c.args.self.now in
    let l = c.loop-component in
    let same : to_z w64 (of_z w64 c.args.place) ≡ c.args.place = to_z-of_z w64 c.args.place (search rules) in
    upto_within g.D.CumulativeDistribution.below m.components.now c.args.place l.component-index l.sum m.total g.D.CumulativeDistribution.never_falls (rw same at l.invariant) m.summed

pub returns : goal.returns
returns g c =
    let m = c.args.self.now in
    let l = c.loop-component in
    let same : to_z w64 (of_z w64 c.args.place) ≡ c.args.place = to_z-of_z w64 c.args.place (search rules) in
    upto_all g.D.CumulativeDistribution.below m.components.now c.args.place l.component-index l.sum c.mean.result m.total (omega arith) (rw same at l.invariant) m.summed c.mean.ensures
