use Rattle.constriction_chain.proofs.coder.ChainCoder.change_precision.Goals as goal

pub returns-in-Ok-decrease_precision-clause-ok : goal.returns-in-Ok-decrease_precision-clause-ok
returns-in-Ok-decrease_precision-clause-ok g c =
    (c.in-Ok-decrease_precision.ensures.ok g.met.R.WriteWords.knows_words, c.in-Ok-decrease_precision.ensures.reads.1)
