use Rattle.std.proofs.Common.{arith}
use Rattle.std.proofs.lemmas.Bool.{false≢true}
use Rattle.constriction_calls.proofs.StoreIndex.{sum_more}
use Rattle.constriction_calls.proofs.store.cutting.add_up.Goals as goal

pub returns-then-len-left : goal.returns-then-len-left
returns-then-len-left c =
    (λ off. absurd (false≢true off), λ all. absurd (omega (arith, (sum_more c.args.lengths.now c.loop-len.len-index (omega (arith, c.loop-len-test.true))), all, c.loop-len.invariant, c.if-len-left.true)))

pub loop-len-preserved : goal.loop-len-preserved
loop-len-preserved c =
    omega (arith, (sum_more c.args.lengths.now c.loop-len.len-index (omega (arith, c.loop-len-test.true))), c.loop-len.invariant, c.if-len-left.false)
