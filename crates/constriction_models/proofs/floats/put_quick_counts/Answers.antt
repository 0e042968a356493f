use Rattle.std.proofs.Common.{arith}
use Rattle.constriction_models.proofs.FloatTables.{counts_make}
use Rattle.constriction_models.proofs.Floating.{quick_counts_are}
use Rattle.constriction_models.proofs.floats.put_quick_counts.Goals as goal

pub returns-then-bits-lt31-clause-counts : goal.returns-then-bits-lt31-clause-counts
returns-then-bits-lt31-clause-counts c =
    quick_counts_are c.args.floats.now c.put.new.counts c.put-then-bits-lt31.new.counts c.new.result.bits c.sum_of.result c.choose_bits-bits.result c.new-then-bits-lt31.result.bits c.new.ensures.bits c.put.ensures c.sum_of.ensures c.choose_bits-bits.ensures.bits c.new-then-bits-lt31.ensures.bits c.put-then-bits-lt31.ensures

pub returns-else-bits-lt31-clause-counts : goal.returns-else-bits-lt31-clause-counts
returns-else-bits-lt31-clause-counts c =
    quick_counts_are c.args.floats.now c.put.new.counts c.put.new.counts c.new.result.bits c.sum_of.result c.choose_bits-bits.result c.new.result.bits c.new.ensures.bits c.put.ensures c.sum_of.ensures c.choose_bits-bits.ensures.bits (omega (arith, c.new.ensures.bits, c.choose_bits-bits.ensures.few)) c.put.ensures

pub returns-then-bits-lt31-clause-table : goal.returns-then-bits-lt31-clause-table
returns-then-bits-lt31-clause-table c = λ precision narrow short. counts_make c.args.floats.now c.put-then-bits-lt31.new.counts c.in_ok-most.most precision (returns-then-bits-lt31-clause-counts c) c.in_ok-most.ensures.most narrow short

pub returns-else-bits-lt31-clause-table : goal.returns-else-bits-lt31-clause-table
returns-else-bits-lt31-clause-table c = λ precision narrow short. counts_make c.args.floats.now c.put.new.counts c.in_ok-most.most precision (returns-else-bits-lt31-clause-counts c) c.in_ok-most.ensures.most narrow short
