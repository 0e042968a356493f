use Rattle.std.proofs.Common.{◌∙◌}
use Rattle.constriction_inputs.proofs.RowWeights.{weight_found}
use Rattle.constriction_inputs.proofs.models.guided.GuidedDecoderModel.quantile_function.Goals as goal

pub returns-then-covers-clause-found : goal.returns-then-covers-clause-found
returns-then-covers-clause-found g c =
    let guess = c.guess-guess.result in
    let is = c.guess-guess.ensures in
    let weight = rw c.unwrap.ensures at c.to_nonzero.ensures in
    weight_found g.P.Natural.number c.args.self.now.row.weights.now guess.0 _ _ guess.2 is.within is.left (weight ∙ is.weight) (g.met.P.BitArray.nonzero_law c.unwrap.result)

pub returns-clause-found : goal.returns-clause-found
returns-clause-found g c =
    let found = c.find_from-found.result in
    let is = c.find_from-found.ensures in
    let weight = rw c.unwrap-2.ensures at c.to_nonzero-2.ensures in
    weight_found g.P.Natural.number c.args.self.now.row.weights.now found.0 _ _ found.2 is.within is.left (weight ∙ is.value) (g.met.P.BitArray.nonzero_law c.unwrap-2.result)
