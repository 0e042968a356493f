use Rattle.std.proofs.Common.{arith}
use Rattle.constriction_models.specs.laws.Categorical.{categorical_has}
use Rattle.constriction_models.proofs.categorical.CategoricalCountsDecoderModel.quantile_function.Goals as goal

pub returns-clause-found : goal.returns-clause-found
returns-clause-found g c =
    let e = c.entry-left.ensures in
    categorical_has g.row.PRECISION c.args.self.now.counts.now c.symbol_at-symbol.result.0 _ _ c.symbol_at-symbol.ensures.within e.lower (omega (arith, e.lower, e.long))
