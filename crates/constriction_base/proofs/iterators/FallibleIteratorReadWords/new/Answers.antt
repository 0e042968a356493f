use Rattle.constriction_base.proofs.Runs.{gives_drained, drained_given}
use Rattle.constriction_base.proofs.iterators.FallibleIteratorReadWords.new.Goals as goal

pub returns-clause-reads : goal.returns-clause-reads
returns-clause-reads g c results =
    let steps = g.Iter.Iterator.next_gives in
    rw c.fuse.ensures.source (rw c.fuse.ensures.done (gives_drained steps c.args.iter results, drained_given steps c.args.iter results))
