use Rattle.std.proofs.Common.{of_calls, refl, ◌/◌, ◌^◌}
use Rattle.constriction_symbol.proofs.BitLemmas.{low_off}
use Rattle.constriction_symbol.proofs.GolombLemmas.{emitted_more, emitted_failed, count_down}
use Rattle.constriction_symbol.proofs.emitting.emit_up.Goals as goal

pub returns-in-Err-clause-emits : goal.returns-in-Err-clause-emits
returns-in-Err-clause-emits g c =
    let some = count_down _ _ c.loop-index-test.true in
    c.loop-index.invariant.1 _ _ (emitted_failed g.F.FnMut (low_off _ _ (g.Word.Natural.number c.loop-index.rest / 2 ^ 1) _ _ some.0 refl c.low_bits.ensures c.is_nothing.ensures) c.in-Err.is c.emit.ensures)

pub loop-index-preserved : goal.loop-index-preserved
loop-index-preserved g c =
    let some = count_down _ _ c.loop-index-test.true in
    let low = low_off _ _ _ _ _ some.0 c.shift_right-rest.ensures c.low_bits.ensures c.is_nothing.ensures in
    (search of_calls, λ r last e. c.loop-index.invariant.1 r last (emitted_more g.F.FnMut r last (rw some.1 at low) c.in-Ok.is c.emit.ensures e))
