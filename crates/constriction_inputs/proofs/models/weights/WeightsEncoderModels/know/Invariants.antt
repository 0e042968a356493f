use Rattle.std.proofs.Common.{drop, map}
use Rattle.constriction_base.specs.Models.{AreKnown, items_of}
use Rattle.constriction_inputs.specs.Weights.{weights_model}
use Rattle.constriction_inputs.proofs.models.weights.WeightsEncoderModels.know.Given as goal

abbrev pub invariant-loop-i : goal.invariant-loop-i
invariant-loop-i g l =
    let model = weights_model g.row.PRECISION (map g.P.Natural.number l.fn.self.weights.now) in
    let xs = g.S.Symbol.numbers l.symbols in
    record {
      before : AreKnown (items_of model (drop l.i xs)) → AreKnown (items_of model xs);
      behind : AreKnown (items_of model xs) → AreKnown (items_of model (drop l.i xs));
    }
