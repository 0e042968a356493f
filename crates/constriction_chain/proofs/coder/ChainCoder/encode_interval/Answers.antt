use Rattle.constriction_chain.proofs.coder.ChainCoder.encode_interval.Goals as goal

pub give-requires-clause-some : goal.give-requires-clause-some
give-requires-clause-some g c = rw (c.widen-p.ensures, c.from_nonzero.ensures) c.requires.step.not_empty

pub give-requires-clause-total : goal.give-requires-clause-total
give-requires-clause-total g c = rw (c.widen-left.ensures, c.widen-p.ensures, c.from_nonzero.ensures) c.requires.step.inside

pub give-requires-clause-reciprocal : goal.give-requires-clause-reciprocal
give-requires-clause-reciprocal g c = rw (c.widen-p.ensures, c.from_nonzero.ensures) c.requires.reciprocal

pub returns-in-Ok : goal.returns-in-Ok
returns-in-Ok g c =
    let call = rw (c.widen-left.ensures, c.widen-p.ensures, c.from_nonzero.ensures, c.numbers-h.ensures.parts) at c.in-Ok.ensures.step.ok in
    rw (← c.self.view_is, c.replace.ensures) call

pub returns-in-Err : goal.returns-in-Err
returns-in-Err g c =
    let call = rw (c.widen-left.ensures, c.widen-p.ensures, c.from_nonzero.ensures, c.numbers-h.ensures.parts) at c.in-Err.ensures.step.err in
    rw (← c.self.view_is) call
