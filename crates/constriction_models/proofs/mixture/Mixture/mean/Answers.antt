use Rattle.std.proofs.Common.{refl, arith}
use Rattle.constriction_models.proofs.Means.{is_nearly, nearly_more, nearly_same}
use Rattle.constriction_models.proofs.mixture.Mixture.mean.Goals as goal

pub overflow_sub-sum : goal.overflow_sub-sum
overflow_sub-sum g c =
    let m = c.args.self.now in
    (is_nearly c.args.sum m.total m.rate _ (omega (arith, m.some, m.summed)) (omega (arith, c.if-sum-ne0.false)) m.rated refl).low

pub returns-then-sum-near : goal.returns-then-sum-near
returns-then-sum-near g c =
    let m = c.args.self.now in
    nearly_more c.args.sum m.total _ (is_nearly c.args.sum m.total m.rate _ (omega (arith, m.some, m.summed)) (omega (arith, c.if-sum-ne0.false)) m.rated refl) (omega (arith, c.if-sum-near.true))

pub returns-else-sum-near : goal.returns-else-sum-near
returns-else-sum-near g c =
    let m = c.args.self.now in
    nearly_same c.args.sum m.total _ (is_nearly c.args.sum m.total m.rate _ (omega (arith, m.some, m.summed)) (omega (arith, c.if-sum-ne0.false)) m.rated refl) (omega (arith, c.if-sum-near.false))
