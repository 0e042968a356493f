use Rattle.std.proofs.Common.{◌<◌, All, arith, refl, subst}
use Rattle.std.proofs.lemmas.List.{take_all}
use Rattle.std.proofs.lemmas.List.Elements.{All-more}
use Rattle.constriction_calls.proofs.symbol.trees.are_below.Goals as goal

pub returns : goal.returns
returns c =
    (λ _. subst (λ xs. All (λ s. s < c.args.bound) xs) (take_all c.loop-symbol.symbol-index c.args.symbols.now (omega (arith, c.loop-symbol-test.false))) c.loop-symbol.invariant, λ _. refl)

pub loop-symbol-preserved : goal.loop-symbol-preserved
loop-symbol-preserved c =
    All-more (λ s. s < c.args.bound) c.args.symbols.now c.loop-symbol.symbol-index 0 (omega (arith, c.loop-symbol-test.true)) c.loop-symbol.invariant (omega (arith, c.if-symbol-bound.false))
