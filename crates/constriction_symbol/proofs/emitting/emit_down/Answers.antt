use Rattle.std.proofs.Common.{◌≡◌, ◌-◌, ◌+◌, ◌∷◌, not, arith, of_calls, reverse}
use Rattle.constriction_symbol.specs.Bits.{bits_of}
use Rattle.constriction_symbol.proofs.GolombLemmas.{reverse_next, emitted_more, emitted_failed}
use Rattle.constriction_symbol.proofs.emitting.emit_down.Goals as goal

pub returns-in-Err-clause-emits : goal.returns-in-Err-clause-emits
returns-in-Err-clause-emits g c =
    let all : c.loop-left.left - 1 + 1 ≡ c.loop-left.left = omega (arith, c.loop-left-test.true) in
    let top : reverse (bits_of c.loop-left.left (g.Word.Natural.number c.args.word)) ≡ not c.is_nothing.result ∷ reverse (bits_of (c.loop-left.left - 1) (g.Word.Natural.number c.args.word)) =
    rw all at (reverse_next _ _ _ _ _ c.shift_right.ensures c.low_bits.ensures c.is_nothing.ensures) in
    c.loop-left.invariant.all _ _ (emitted_failed g.F.FnMut top c.in-Err.is c.emit.ensures)

pub loop-left-preserved : goal.loop-left-preserved
loop-left-preserved g c =
    let all : c.loop-left.left - 1 + 1 ≡ c.loop-left.left = omega (arith, c.loop-left-test.true) in
    let top : reverse (bits_of c.loop-left.left (g.Word.Natural.number c.args.word)) ≡ not c.is_nothing.result ∷ reverse (bits_of (c.loop-left.left - 1) (g.Word.Natural.number c.args.word)) =
    rw all at (reverse_next _ _ _ _ _ c.shift_right.ensures c.low_bits.ensures c.is_nothing.ensures) in
    record {
      callable = search of_calls;
      within = omega (arith, c.loop-left.invariant.within);
      all = λ r last e. c.loop-left.invariant.all r last (emitted_more g.F.FnMut r last top c.in-Ok.is c.emit.ensures e);
    }
