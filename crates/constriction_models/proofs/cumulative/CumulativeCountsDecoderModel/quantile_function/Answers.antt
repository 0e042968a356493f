use Rattle.std.proofs.Common.{arith}
use Rattle.constriction_models.specs.Cumulative.{differences}
use Rattle.constriction_models.specs.laws.Categorical.{categorical_has}
use Rattle.constriction_models.proofs.cumulative.CumulativeCountsDecoderModel.quantile_function.Goals as goal

pub returns-clause-found : goal.returns-clause-found
returns-clause-found g c =
    let e = c.entry-left.ensures in
    categorical_has g.row.PRECISION (differences c.args.self.now.sums.items) c.symbol_at-symbol.result _ _ c.symbol_at-symbol.ensures.within e.lower (omega (arith, e.lower, e.long))
