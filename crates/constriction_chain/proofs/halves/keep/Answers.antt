use Rattle.constriction_chain.proofs.halves.keep.Goals as goal

pub returns-in-Ok : goal.returns-in-Ok
returns-in-Ok g c = record { ok = rw (c.widen-t.ensures, c.minus.ensures, c.widen.ensures) at c.in-Ok.ensures.ok; err = tt }

pub returns-in-Err : goal.returns-in-Err
returns-in-Err g c = record { ok = tt; err = rw (c.widen-t.ensures, c.minus.ensures, c.widen.ensures) at c.in-Err.ensures.err }
