use Rattle.constriction_inputs.proofs.Guiding.{no_guesses}
use Rattle.constriction_inputs.proofs.models.guided.encoding_by.Goals as goal

pub invariant_of-result : goal.invariant_of-result
invariant_of-result g c = record {
  kept = rw c.of_total-row.ensures c.in-Ok.ensures;
  guessed = no_guesses g.P.Natural.number _ c.new-intervals.result.items c.new-symbols.result.items c.new-intervals.ensures.items c.new-symbols.ensures.items;
  cut = (c.shift_for-shift.ensures.within, c.shift_for-shift.ensures.most);
}
