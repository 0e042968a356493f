use Rattle.std.proofs.Common.{map}
use Rattle.constriction_base.specs.Models.{AreKnown}
use Rattle.constriction_inputs.specs.Indexed.{index_items}
use Rattle.constriction_inputs.proofs.IndexedTables.{items_from}
use Rattle.constriction_inputs.proofs.models.indexed.IndexedEncoderModels.know.Given as goal

abbrev pub invariant-loop-i : goal.invariant-loop-i
invariant-loop-i g l =
    let self = l.fn.self in
    let ws = map g.P.Natural.number self.weights.now in
    let xs = g.S.Symbol.numbers l.symbols in
    let indexes = self.indexes.now in
    record {
      before : AreKnown (items_from self.width ws g.row.PRECISION indexes xs l.i) → AreKnown (index_items g.row.PRECISION self.width ws indexes xs);
      behind : AreKnown (index_items g.row.PRECISION self.width ws indexes xs) → AreKnown (items_from self.width ws g.row.PRECISION indexes xs l.i);
    }
