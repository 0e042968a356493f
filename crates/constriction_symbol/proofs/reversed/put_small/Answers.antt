use Rattle.constriction_symbol.proofs.ReversedCodewords.{two_words}
use Rattle.constriction_symbol.proofs.reversed.put_small.Goals as goal

pub returns-clause-err : goal.returns-clause-err
returns-clause-err c = two_words c.args.stack.now.backend.items _ _ _ c.put.ensures.err c.put.ensures.full
