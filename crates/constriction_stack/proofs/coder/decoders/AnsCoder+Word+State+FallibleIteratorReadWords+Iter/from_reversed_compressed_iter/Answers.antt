use Rattle.constriction_stack.proofs.coder.decoders.AnsCoder+Word+State+FallibleIteratorReadWords+Iter.from_reversed_compressed_iter.Goals as goal

pub returns-in-Ok-clause-reads : goal.returns-in-Ok-clause-reads
returns-in-Ok-clause-reads g c = rw c.new.ensures.value at c.in-Ok.ensures.reads

pub returns-in-Err-clause-err : goal.returns-in-Err-clause-err
returns-in-Err-clause-err g c =
    let refused = rw c.new.ensures.value at c.in-Err.ensures.err in
    rw (c.into_iter.ensures.into_iter_gives.0, c.into_iter.ensures.into_iter_gives.1) refused
