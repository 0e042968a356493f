use Rattle.std.proofs.Common.{◌≡◌, max, take}
use Rattle.std.specs.List.{fold}
use Rattle.constriction_models.specs.Floats.{float_bits}
use Rattle.constriction_models.proofs.floats.find_greatest_bits.Given as goal

abbrev pub invariant-loop-float : goal.invariant-loop-float
invariant-loop-float l = l.most ≡ fold (λ most b. max most (float_bits b)) 0 (take l.float-index l.floats)
