use Rattle.std.proofs.Common.{arith}
use Rattle.constriction_models.specs.Cumulative.{differences}
use Rattle.constriction_models.specs.laws.Categorical.{categorical_has, categorical_impossible}
use Rattle.constriction_models.proofs.cumulative.CumulativeCountsEncoderModel.left_cumulative_and_probability.Goals as goal

pub returns-then-symbol-len-clause-impossible : goal.returns-then-symbol-len-clause-impossible
returns-then-symbol-len-clause-impossible g c =
    let m = c.args.self.now in
    categorical_impossible g.row.PRECISION (differences m.sums.items) c.args.symbol.now (omega (arith, m.listed.len, c.if-symbol-len.true, c.len.ensures))

pub returns-clause-found : goal.returns-clause-found
returns-clause-found g c =
    let m = c.args.self.now in
    let e = c.entry.ensures in
    categorical_has g.row.PRECISION (differences m.sums.items) c.args.symbol.now _ _ (omega (arith, m.listed.len, c.if-symbol-len.false, c.len.ensures)) e.lower (omega (arith, e.lower, e.long))
