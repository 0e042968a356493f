use Rattle.std.proofs.Common.{arith}
use Rattle.std.proofs.lemmas.Bool.Decides.{nat_tests}
use Rattle.constriction_models.specs.Floats.{float_bits}
use Rattle.constriction_models.proofs.floats.clear_zero_sign.Goals as goal

pub returns-then-float-eq-NEGATIVE_ZERO : goal.returns-then-float-eq-NEGATIVE_ZERO
unfolding float_bits
returns-then-float-eq-NEGATIVE_ZERO c = grind (arith, nat_tests)

pub returns-else-float-eq-NEGATIVE_ZERO : goal.returns-else-float-eq-NEGATIVE_ZERO
unfolding float_bits
returns-else-float-eq-NEGATIVE_ZERO c = grind (arith, nat_tests)
