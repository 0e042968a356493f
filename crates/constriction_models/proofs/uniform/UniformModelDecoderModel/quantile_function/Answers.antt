use Rattle.std.proofs.Common.{arith}
use Rattle.constriction_models.specs.laws.Even.{uniform_interval, uniform_has}
use Rattle.constriction_base.proofs.Sizes.{pow_le}
use Rattle.constriction_models.proofs.uniform.UniformModelDecoderModel.quantile_function.Goals as goal

pub interval-left-requires-clause-long : goal.interval-left-requires-clause-long
interval-left-requires-clause-long g c =
    let m = c.args.self.now in
    let i = uniform_interval g.row.PRECISION m.count c.symbol_at-symbol.result m.some m.room c.symbol_at-symbol.ensures.within in
    omega (arith, i.not_all, c.start.ensures, c.start-2.ensures, pow_le _ _ m.fits)

pub returns-clause-found : goal.returns-clause-found
returns-clause-found g c =
    let m = c.args.self.now in
    uniform_has g.row.PRECISION m.count c.symbol_at-symbol.result _ _ c.symbol_at-symbol.ensures.within (omega (arith, c.interval-left.ensures.lower, c.start.ensures))
    (omega (arith, c.interval-left.ensures.lower, c.interval-left.ensures.long, c.start-2.ensures))
