use Rattle.std.proofs.Common.{of_calls}
use Rattle.constriction_symbol.proofs.GolombLemmas.{emitted_more, emitted_failed}
use Rattle.constriction_symbol.proofs.ReversedCodewords.{first_reversed}
use Rattle.constriction_symbol.proofs.reversed.emit_taken.Goals as goal

pub returns-in-Err : goal.returns-in-Err
returns-in-Err g c = c.loop-bit.invariant.all _ _ (emitted_failed g.F.FnMut (first_reversed _ _ _ c.in-Some.ensures) c.in-Err.is c.emit.ensures)

pub loop-bit-preserved : goal.loop-bit-preserved
loop-bit-preserved g c = record {
  callable = search of_calls;
  all = λ r last e. c.loop-bit.invariant.all r last (emitted_more g.F.FnMut r last (first_reversed _ _ _ c.in-Some.ensures) c.in-Ok.is c.emit.ensures e);
}
