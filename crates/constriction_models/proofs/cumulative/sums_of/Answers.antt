use Rattle.std.proofs.Common.{◌≡◌, ◌+◌, ap, take, arith}
use Rattle.std.specs.List.{sum_by}
use Rattle.std.proofs.lemmas.List.Sums.{sum_by_more}
use Rattle.constriction_base.proofs.Sums.{sums_push}
use Rattle.constriction_models.proofs.cumulative.sums_of.Goals as goal

pub loop-count-preserved : goal.loop-count-preserved
loop-count-preserved g c =
    let number = g.C.Natural.number in
    let counts = c.args.counts.now in
    let i = c.loop-count.invariant in
    let more = sum_by_more number counts c.loop-count.count-index c.count-item.result (omega arith) in
    let before : c.loop-count.before + c.widen-more.result ≡ sum_by number (take (c.loop-count.count-index + 1) counts) = omega (arith, i.before, c.widen-more.ensures, ap number c.count-item.is, more) in
    record {
      before = before;
      capacity = omega (arith, c.push_reserved-in-loop-count.ensures.capacity, i.capacity);
      counted = omega (arith, c.push_reserved-in-loop-count.ensures.len, i.counted);
      sums = rw c.push_reserved-in-loop-count.ensures.items (sums_push number counts c.loop-count.sums.items c.loop-count.count-index _ i.sums before);
    }
