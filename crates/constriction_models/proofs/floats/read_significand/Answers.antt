use Rattle.std.proofs.Common.{sym, arith}
use Rattle.constriction_models.proofs.Floating.{significand_small, significand_large}
use Rattle.constriction_models.proofs.floats.read_significand.Goals as goal

pub returns-then-bits-lt-LEADING : goal.returns-then-bits-lt-LEADING
returns-then-bits-lt-LEADING c = sym (significand_small c.args.bits (omega arith))

pub returns-else-bits-lt-LEADING : goal.returns-else-bits-lt-LEADING
returns-else-bits-lt-LEADING c = omega (arith, significand_large c.args.bits (omega arith))
