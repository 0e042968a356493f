use Rattle.constriction_symbol.proofs.BitPlaces.{one_further}
use Rattle.constriction_calls.proofs.symbol.counted.CountedBits.pass_over.Goals as goal

pub loop-done-preserved : goal.loop-done-preserved
loop-done-preserved g c =
    one_further _ c.loop-done._done c.args.self.now c.in-Ok.field-0 c.next_bit.new.self (rw c.loop-done.invariant at c.in-Ok.ensures)
