use Rattle.std.proofs.Common.{◌≡◌, ◌+◌, ◌-◌, ◌*◌, drop, length, map}
use Rattle.constriction_base.specs.Models.{AreKnown}
use Rattle.constriction_inputs.specs.Rows.{row_items}
use Rattle.constriction_inputs.proofs.known.all_known_in_rows.Given as goal

abbrev pub invariant-loop-i : goal.invariant-loop-i
invariant-loop-i g l =
    let items = row_items g.row.PRECISION l.width in
    let all = map g.P.Natural.number l.weights in
    let xs = g.S.Symbol.numbers l.symbols in
    record {
      rest : l.start + l.width * (length l.symbols - l.i) ≡ length l.weights;
      before : AreKnown (items (drop l.start all) (drop l.i xs)) → AreKnown (items all xs);
      behind : AreKnown (items all xs) → AreKnown (items (drop l.start all) (drop l.i xs));
    }
