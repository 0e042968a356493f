use Rattle.std.proofs.Common.{◌+◌, arith}
use Rattle.std.proofs.lemmas.Bool.{false≢true}
use Rattle.constriction_store.proofs.Counting.{counted_more, counted_le}
use Rattle.constriction_store.proofs.building.are_few.Goals as goal

pub returns-then-len-left : goal.returns-then-len-left
returns-then-len-left c =
    let k = c.loop-chunk.chunk-index in
    let more = counted_more c.args.chunks.now (λ v. v.items) k c.chunk-item.result c.loop-chunk-test.true c.chunk-item.is in
    let le = counted_le c.args.chunks.now (λ v. v.items) (k + 1) in
    (λ off. absurd (false≢true off), λ few. absurd (omega (arith, more, le, few, c.loop-chunk.invariant, c.len.ensures, c.if-len-left.true, c.chunk-item.result.ok.0)))

pub loop-chunk-preserved : goal.loop-chunk-preserved
loop-chunk-preserved c =
    let more = counted_more c.args.chunks.now (λ v. v.items) c.loop-chunk.chunk-index c.chunk-item.result c.loop-chunk-test.true c.chunk-item.is in
    omega (arith, more, c.loop-chunk.invariant, c.len.ensures, c.len-left.ensures, c.if-len-left.false, c.chunk-item.result.ok.0)
