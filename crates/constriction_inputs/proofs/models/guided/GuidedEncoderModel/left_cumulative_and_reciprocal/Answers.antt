use Rattle.std.proofs.Common.{◌<◌, ◌∙◌, length, sym, arith}
use Rattle.constriction_inputs.proofs.Guiding.{row_at}
use Rattle.constriction_inputs.proofs.RowWeights.{none_of_nothing, weight_found}
use Rattle.constriction_inputs.proofs.models.guided.GuidedEncoderModel.left_cumulative_and_reciprocal.Goals as goal

pub returns-in-None-to_nonzero-clause-impossible : goal.returns-in-None-to_nonzero-clause-impossible
returns-in-None-to_nonzero-clause-impossible g c =
    let number = g.P.Natural.number in
    let self = c.args.self.now in
    let ws = self.row.weights.now in
    let row = c.index-row.result.now in
    let inside : c.args.symbol.now < length self.symbol_rows.items = omega (arith, c.if-symbol-len.false, c.len.ensures, self.symbol_rows.ok.0) in
    let is = row_at number ws self.divides self.symbol_rows.items row c.args.symbol.now self.kept inside c.index-row.ensures in
    none_of_nothing number ws c.args.symbol.now row.weight (omega (arith, inside, self.kept.within)) (sym is.weight ∙ c.in-None-to_nonzero.ensures)

pub returns-in-Some-to_nonzero-clause-found : goal.returns-in-Some-to_nonzero-clause-found
returns-in-Some-to_nonzero-clause-found g c =
    let number = g.P.Natural.number in
    let self = c.args.self.now in
    let ws = self.row.weights.now in
    let row = c.index-row.result.now in
    let inside : c.args.symbol.now < length self.symbol_rows.items = omega (arith, c.if-symbol-len.false, c.len.ensures, self.symbol_rows.ok.0) in
    let is = row_at number ws self.divides self.symbol_rows.items row c.args.symbol.now self.kept inside c.index-row.ensures in
    let some = g.met.P.BitArray.nonzero_law c.in-Some-to_nonzero.p in
    weight_found number ws c.args.symbol.now _ _ row.weight (omega (arith, inside, self.kept.within)) (is.left (omega (arith, some, c.in-Some-to_nonzero.ensures))) (c.in-Some-to_nonzero.ensures ∙ is.weight) some
