use Rattle.constriction_inputs.proofs.KnownRows.{past_unknown, weight_known}
use Rattle.constriction_inputs.proofs.known.is_known.Goals as goal

pub returns-then-symbol-weights : goal.returns-then-symbol-weights
returns-then-symbol-weights g c = past_unknown g.P.Natural.number g.row.PRECISION c.args.weights.now c.args.symbol c.if-symbol-weights.true

pub returns : goal.returns
returns g c =
    weight_known g.P.Natural.number g.row.PRECISION c.args.weights.now c.args.symbol c.index-weights-symbol.result c.is_nothing.result c.if-symbol-weights.false c.index-weights-symbol.is c.is_nothing.ensures
