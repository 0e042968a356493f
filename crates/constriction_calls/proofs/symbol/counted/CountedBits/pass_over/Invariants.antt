use Rattle.std.proofs.Common.{◌≡◌, drop}
use Rattle.constriction_calls.proofs.symbol.counted.CountedBits.pass_over.Given as goal

-- so many bits were passed
abbrev pub invariant-loop-done : goal.invariant-loop-done
invariant-loop-done g l = l.self ≡ drop l._done l.fn.self
