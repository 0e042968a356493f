use Rattle.std.proofs.Common.{of_calls}
use Rattle.constriction_symbol.proofs.GolombLemmas.{zeros_next, emitted_more, emitted_failed}
use Rattle.constriction_symbol.proofs.emitting.emit_zeros.Goals as goal

pub returns-in-Err-clause-emits : goal.returns-in-Err-clause-emits
returns-in-Err-clause-emits g c = c.loop-index.invariant.1 _ _ (emitted_failed g.F.FnMut (zeros_next _ _ c.loop-index-test.true) c.in-Err.is c.emit.ensures)

pub loop-index-preserved : goal.loop-index-preserved
loop-index-preserved g c =
    (search of_calls, λ r last e. c.loop-index.invariant.1 r last (emitted_more g.F.FnMut r last (zeros_next _ _ c.loop-index-test.true) c.in-Ok.is c.emit.ensures e))
