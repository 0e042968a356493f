use Rattle.std.proofs.Common.{arith}
use Rattle.std.proofs.lemmas.List.{length-take}
use Rattle.constriction_base.proofs.Sizes.{pow_le}
use Rattle.constriction_models.specs.laws.Categorical.{categorical_has, categorical_impossible}
use Rattle.constriction_models.proofs.categorical.CategoricalCountsEncoderModel.left_cumulative_and_probability.Goals as goal

pub returns-then-symbol-self-clause-impossible : goal.returns-then-symbol-self-clause-impossible
returns-then-symbol-self-clause-impossible g c = categorical_impossible g.row.PRECISION c.args.self.now.counts.now c.args.symbol.now c.if-symbol-self.true

pub sum_of-before-requires : goal.sum_of-before-requires
sum_of-before-requires g c =
    let m = c.args.self.now in
    omega (arith, length-take c.args.symbol.now m.counts.now, m.shared, pow_le g.row.PRECISION 24 m.few)

pub returns-clause-found : goal.returns-clause-found
returns-clause-found g c =
    let e = c.entry.ensures in
    categorical_has g.row.PRECISION c.args.self.now.counts.now c.args.symbol.now _ _ c.if-symbol-self.false e.lower (omega (arith, e.lower, e.long))
