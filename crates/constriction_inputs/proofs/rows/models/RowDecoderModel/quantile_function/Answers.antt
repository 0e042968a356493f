use Rattle.constriction_inputs.proofs.RowWeights.{weight_found}
use Rattle.constriction_inputs.proofs.rows.models.RowDecoderModel.quantile_function.Goals as goal

pub returns-then-is_below-clause-found : goal.returns-then-is_below-clause-found
returns-then-is_below-clause-found g c =
    let weight = rw c.unwrap.ensures at c.to_nonzero.ensures in
    weight_found g.P.Natural.number c.args.self.now.weights.now c.loop-symbol.symbol _ _ c.index-self-symbol.result c.loop-symbol-test.true c.loop-symbol.invariant.left weight (g.met.P.BitArray.nonzero_law c.unwrap.result)
