use Rattle.std.proofs.Common.{◌≡◌, ◌+◌, drop}
use Rattle.std.specs.Prelude.{sum}
use Rattle.constriction_calls.proofs.store.cutting.add_up.Given as goal

-- what is left of the number lacks to the sum of the lengths that are left as much as the number to the sum of all
abbrev pub invariant-loop-len : goal.invariant-loop-len
invariant-loop-len l = l.left + sum l.lengths ≡ l.count + sum (drop l.len-index l.lengths)
