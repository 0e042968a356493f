use Rattle.std.proofs.Common.{◌≡◌, take}
use Rattle.std.specs.List.{sum}
use Rattle.constriction_models.proofs.categorical.is_some_above_0.Given as goal

abbrev pub invariant-loop-count : goal.invariant-loop-count
invariant-loop-count l = sum (take l.count-index l.counts) ≡ 0
