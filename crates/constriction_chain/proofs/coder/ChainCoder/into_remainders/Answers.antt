use Rattle.std.proofs.Common.{refl}
use Rattle.constriction_chain.proofs.Chains.{coder_of}
use Rattle.constriction_chain.proofs.coder.ChainCoder.into_remainders.Goals as goal

pub returns-in-Ok-clause-ok : goal.returns-in-Ok-clause-ok
returns-in-Ok-clause-ok g c =
    let done = rw c.parts-h.ensures.parts at c.in-Ok.ensures.ok in
    rw (← c.self.view_is) (refl, done)

pub returns-in-Ok-clause-coder : goal.returns-in-Ok-clause-coder
returns-in-Ok-clause-coder g c =
    let law = g.met.Word.Natural.number_law in
    let parts = c.parts-h.ensures in
    rw (← c.self.view_is) (coder_of _ _ _ g.Word.Natural.number law _ _ _ _ _ _ parts.sized parts.some (law _) parts.window)

pub returns-in-Err-clause-err : goal.returns-in-Err-clause-err
returns-in-Err-clause-err g c =
    let refused = rw c.parts-h.ensures.parts at c.in-Err.ensures.err in
    rw (← c.self.view_is) refused

pub returns-in-Err-clause-coder : goal.returns-in-Err-clause-coder
returns-in-Err-clause-coder g c =
    let law = g.met.Word.Natural.number_law in
    let parts = c.parts-h.ensures in
    rw (← c.self.view_is) (coder_of _ _ _ g.Word.Natural.number law _ _ _ _ _ _ parts.sized parts.some (law _) parts.window)
