use Rattle.std.proofs.Common.{arith}
use Rattle.constriction_models.proofs.Floating.{quick_bits_few, quick_bits_fewer, quick_length}
use Rattle.constriction_models.proofs.floats.choose_bits.Goals as goal

pub returns-then-total-clause-bits : goal.returns-then-total-clause-bits
returns-then-total-clause-bits c = quick_bits_few c.args.total (omega arith)

pub overflow_sub-total-2 : goal.overflow_sub-total-2
overflow_sub-total-2 c = quick_length c.args.total (omega arith) (omega arith)

pub returns-clause-bits : goal.returns-clause-bits
returns-clause-bits c = quick_bits_fewer c.args.total c.saturating_sub.result (omega arith) (search arith)
