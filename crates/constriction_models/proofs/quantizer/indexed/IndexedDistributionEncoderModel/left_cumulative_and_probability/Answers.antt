use Rattle.std.proofs.Common.{arith}
use Rattle.constriction_models.specs.laws.Quantizing.{proper_interval}
use Rattle.constriction_models.specs.laws.Indexing.{indexed_has, indexed_impossible}
use Rattle.constriction_models.proofs.quantizer.indexed.IndexedDistributionEncoderModel.left_cumulative_and_probability.Goals as goal
use Rattle.constriction_base.proofs.Sizes.{pow_le}

pub returns-then-place-self-clause-impossible : goal.returns-then-place-self-clause-impossible
returns-then-place-self-clause-impossible g c =
    let m = c.args.self.now.model in
    indexed_impossible g.row.PRECISION (g.D.CumulativeDistribution.below m.distribution) m.quantizer.min m.quantizer.count c.args.symbol.now c.if-place-self.true

pub interval-requires-clause-some : goal.interval-requires-clause-some
interval-requires-clause-some g c =
    let m = c.args.self.now.model in
    let q = m.quantizer in
    let i = proper_interval g.row.PRECISION (g.D.CumulativeDistribution.below m.distribution) q.min q.count c.args.symbol.now (g.D.CumulativeDistribution.never_falls m.distribution) q.some q.room c.if-place-self.false in
    omega (arith, i.some, c.start-left.ensures, c.start-end.ensures)

pub interval-requires-clause-fits : goal.interval-requires-clause-fits
interval-requires-clause-fits g c =
    let m = c.args.self.now.model in
    let q = m.quantizer in
    let i = proper_interval g.row.PRECISION (g.D.CumulativeDistribution.below m.distribution) q.min q.count c.args.symbol.now (g.D.CumulativeDistribution.never_falls m.distribution) q.some q.room c.if-place-self.false in
    omega (arith, i.some, i.inside, c.start-left.ensures, pow_le _ _ q.fits)

pub interval-requires-clause-long : goal.interval-requires-clause-long
interval-requires-clause-long g c =
    let m = c.args.self.now.model in
    let q = m.quantizer in
    let i = proper_interval g.row.PRECISION (g.D.CumulativeDistribution.below m.distribution) q.min q.count c.args.symbol.now (g.D.CumulativeDistribution.never_falls m.distribution) q.some q.room c.if-place-self.false in
    omega (arith, i.not_all, c.start-left.ensures, c.start-end.ensures, pow_le _ _ q.fits)

pub returns-clause-found : goal.returns-clause-found
returns-clause-found g c =
    let m = c.args.self.now.model in
    let q = m.quantizer in
    indexed_has g.row.PRECISION (g.D.CumulativeDistribution.below m.distribution) q.min q.count c.args.symbol.now _ _ c.if-place-self.false (omega (arith, c.interval.ensures.lower, c.start-left.ensures))
    (omega (arith, c.interval.ensures.lower, c.interval.ensures.long, c.start-end.ensures))
