use Rattle.constriction_stack.proofs.coder.decoders.AnsCoder+Word+State+FallibleIteratorReadWords+Iter.from_reversed_binary_iter.Goals as goal

pub returns-clause-reads : goal.returns-clause-reads
returns-clause-reads g c = rw c.new.ensures.value at c.from_binary.ensures.reads
