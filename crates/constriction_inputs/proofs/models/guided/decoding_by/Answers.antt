use Rattle.std.proofs.Common.{false}
use Rattle.constriction_inputs.proofs.Guiding.{no_rows}
use Rattle.constriction_inputs.proofs.models.guided.decoding_by.Goals as goal

pub invariant_of-result : goal.invariant_of-result
invariant_of-result g c = record {
  kept = no_rows g.P.Natural.number _ false c.new-symbol_rows.result.items c.new-symbol_rows.ensures.items;
  guessed = rw c.of_total-row.ensures c.in-Ok.ensures;
  cut = (c.shift_for-shift.ensures.within, c.shift_for-shift.ensures.most);
}
