use Rattle.std.proofs.Common.{arith}
use Rattle.constriction_models.proofs.Words.{power_in_word}
use Rattle.constriction_models.proofs.bernoulli.BernoulliModel.interval_of.Goals as goal
use Rattle.constriction_base.proofs.Sizes.{pow_le}

pub interval-requires-clause-fits : goal.interval-requires-clause-fits
interval-requires-clause-fits g c =
    let m = c.args.self.now in
    omega (arith, power_in_word g.row.PRECISION (omega (arith, m.fits, g.met.Probability.WordOf.width_law)), pow_le _ _ m.fits, m.some, m.less)

pub interval-requires-clause-long : goal.interval-requires-clause-long
interval-requires-clause-long g c =
    let m = c.args.self.now in
    omega (arith, power_in_word g.row.PRECISION (omega (arith, m.fits, g.met.Probability.WordOf.width_law)), pow_le _ _ m.fits, m.some, m.less)

pub interval-requires-2-clause-long : goal.interval-requires-2-clause-long
interval-requires-2-clause-long g c =
    let m = c.args.self.now in
    omega (arith, power_in_word g.row.PRECISION (omega (arith, m.fits, g.met.Probability.WordOf.width_law)), pow_le _ _ m.fits, m.some, m.less)
