use Rattle.std.proofs.Common.{arith}
use Rattle.std.proofs.lemmas.Int.{ints}
use Rattle.constriction_models.specs.laws.Indexing.{placed, indexed_of}
use Rattle.constriction_models.proofs.quantizer.indexed.IndexedDistributionDecoderModel.quantile_function.Goals as goal

pub overflow_cast-result : goal.overflow_cast-result
overflow_cast-result g c =
    let m = c.args.self.now.model in
    let at = placed g.row.PRECISION (g.D.CumulativeDistribution.below m.distribution) m.quantizer.min m.quantizer.count _ _ _ c.quantile_function-symbol.ensures.found in
    (omega (arith, ints, at.is_symbol), omega (arith, ints, at.is_symbol))

pub returns-clause-found : goal.returns-clause-found
returns-clause-found g c =
    let m = c.args.self.now.model in
    let at = placed g.row.PRECISION (g.D.CumulativeDistribution.below m.distribution) m.quantizer.min m.quantizer.count _ _ _ c.quantile_function-symbol.ensures.found in
    indexed_of g.row.PRECISION (g.D.CumulativeDistribution.below m.distribution) m.quantizer.min m.quantizer.count _ _ _ _ c.quantile_function-symbol.ensures.found (omega (arith, ints, at.is_symbol))
