use Rattle.constriction_symbol.proofs.huffman.collecting.collect_lent.Goals as goal

pub returns-clause-ok : goal.returns-clause-ok
returns-clause-ok g c =
    (c.into_iter-item-iterator.result, c.into_iter-item-iterator.ensures.into_iter_gives, c.loop-item.yielded, (c.next.new.self, (c.loop-item.item-iterator, c.loop-item.yielded_by, c.in-None.ensures.steps)), c.loop-item.invariant.2)

pub returns-in-Err-clause-err : goal.returns-in-Err-clause-err
returns-in-Err-clause-err g c =
    (c.into_iter-item-iterator.result, c.into_iter-item-iterator.ensures.into_iter_gives, c.loop-item.yielded, c.in-Some.item, c.next.new.self, (c.loop-item.item-iterator, c.loop-item.yielded_by, c.in-Some.ensures.steps))
