use Rattle.constriction_inputs.proofs.RowWeights.{weight_found, none_past, none_of_nothing, first_fits}
use Rattle.constriction_inputs.proofs.rows.models.RowEncoderModel.left_cumulative_and_probability.Goals as goal

pub returns-then-symbol-self-clause-impossible : goal.returns-then-symbol-self-clause-impossible
returns-then-symbol-self-clause-impossible g c = none_past g.P.Natural.number c.args.self.now.weights.now c.args.symbol.now c.if-symbol-self.true

pub sum_before-requires-clause-fits : goal.sum_before-requires-clause-fits
sum_before-requires-clause-fits g c =
    let row = c.args.self.now in
    let number = g.P.Natural.number in
    let some = rw c.in-Some.ensures at (g.met.P.BitArray.nonzero_law c.in-Some.p) in
    first_fits number g.row.PRECISION g.P.Natural.BITS row.weights.now c.args.symbol.now c.index-self-symbol.result row.total row.fits c.if-symbol-self.false some

pub returns-in-None-clause-impossible : goal.returns-in-None-clause-impossible
returns-in-None-clause-impossible g c =
    none_of_nothing g.P.Natural.number c.args.self.now.weights.now c.args.symbol.now c.index-self-symbol.result c.if-symbol-self.false c.in-None.ensures

pub returns-in-Some-clause-found : goal.returns-in-Some-clause-found
returns-in-Some-clause-found g c =
    weight_found g.P.Natural.number c.args.self.now.weights.now c.args.symbol.now _ _ c.index-self-symbol.result c.if-symbol-self.false c.sum_before.ensures c.in-Some.ensures (g.met.P.BitArray.nonzero_law c.in-Some.p)
