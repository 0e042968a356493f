use Rattle.std.proofs.Common.{ℕ, List, max, ap, ◌∙◌, arith}
use Rattle.std.specs.List.{fold}
use Rattle.std.proofs.lemmas.List.{take_all}
use Rattle.constriction_models.specs.Floats.{float_bits, greatest_bits}
use Rattle.constriction_models.proofs.floats.find_greatest_bits.Goals as goal

pub returns : goal.returns
unfolding greatest_bits
returns c = c.loop-float.invariant ∙ ap (λ (xs : List ℕ). fold (λ most b. max most (float_bits b)) 0 xs) (take_all c.loop-float.float-index c.args.floats.now (omega arith))
