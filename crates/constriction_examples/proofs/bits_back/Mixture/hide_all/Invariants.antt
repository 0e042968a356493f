use Rattle.std.proofs.Common.{take}
use Rattle.constriction.specs.Steps.{Trace}
use Rattle.constriction.specs.stack.Ans.{IsNormalized}
use Rattle.constriction_examples.specs.Hiding.{Hides}
use Rattle.constriction_examples.proofs.bits_back.Mixture.hide_all.Given as goal

-- the symbols before the place are hidden, in a valid state
abbrev pub invariant-loop-symbol : goal.invariant-loop-symbol
invariant-loop-symbol l =
    IsNormalized 32 64 l.fn.coder.state → Trace (Hides l.self) (take l.symbol-index l.symbols) l.fn.coder.state l.coder.state × IsNormalized 32 64 l.coder.state
