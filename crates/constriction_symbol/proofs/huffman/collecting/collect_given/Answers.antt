use Rattle.constriction_symbol.proofs.huffman.collecting.collect_given.Goals as goal

pub returns-clause-ok : goal.returns-clause-ok
returns-clause-ok g c =
    (c.into_iter-item-iterator.result, c.into_iter-item-iterator.ensures.into_iter_gives, (c.next.new.self, (c.loop-item.item-iterator, rw c.loop-item.invariant.2 at c.loop-item.yielded_by, c.in-None.ensures.steps)))

pub returns-in-Err-clause-err : goal.returns-in-Err-clause-err
returns-in-Err-clause-err g c =
    (c.into_iter-item-iterator.result, c.into_iter-item-iterator.ensures.into_iter_gives, c.loop-item.weights.items, c.next.new.self, (c.loop-item.item-iterator, rw c.loop-item.invariant.2 at c.loop-item.yielded_by, rw c.in-Err.is at c.in-Some.ensures.steps))

pub returns-in-Err-push-clause-err : goal.returns-in-Err-push-clause-err
returns-in-Err-push-clause-err g c =
    (c.in-Ok.weight, (c.into_iter-item-iterator.result, c.into_iter-item-iterator.ensures.into_iter_gives, c.loop-item.weights.items, c.next.new.self, (c.loop-item.item-iterator, rw c.loop-item.invariant.2 at c.loop-item.yielded_by, rw c.in-Ok.is at c.in-Some.ensures.steps)))
