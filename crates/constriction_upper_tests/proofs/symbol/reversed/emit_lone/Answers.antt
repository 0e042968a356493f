use Rattle.std.proofs.Common.{◌++◌, ◌∷◌, [], ◌≡◌, ◌<◌, ◌+◌, ◌-◌, ℕ, true, false, ap, of_calls}
use Rattle.constriction_symbol.proofs.GolombLemmas.{zeros_next, emitted_more, emitted_failed}
use Rattle.constriction_upper_tests.specs.Lone.{lone_suffix}
use Rattle.constriction_upper_tests.proofs.symbol.reversed.emit_lone.Goals as goal

lone_next : (n i : ℕ) → i < n → lone_suffix (n - i) ≡ false ∷ lone_suffix (n - (i + 1))
lone_next n i h = ap (λ bits. bits ++ true ∷ []) (zeros_next n i h)

pub returns-in-Err : goal.returns-in-Err
returns-in-Err g c = c.loop-index.invariant.all _ _ (emitted_failed g.F.FnMut (lone_next _ _ c.loop-index-test.true) c.in-Err.is c.emit.ensures)

pub loop-index-preserved : goal.loop-index-preserved
loop-index-preserved g c = record {
  callable = search of_calls;
  all = λ r last e. c.loop-index.invariant.all r last (emitted_more g.F.FnMut r last (lone_next _ _ c.loop-index-test.true) c.in-Ok.is c.emit.ensures e);
}
