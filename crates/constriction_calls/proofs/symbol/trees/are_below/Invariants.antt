use Rattle.std.proofs.Common.{◌<◌, All, take}
use Rattle.constriction_calls.proofs.symbol.trees.are_below.Given as goal

-- those so far are
abbrev pub invariant-loop-symbol : goal.invariant-loop-symbol
invariant-loop-symbol l = All (λ s. s < l.bound) (take l.symbol-index l.symbols)
