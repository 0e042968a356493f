use Rattle.constriction_chain.proofs.Chains.{coder_of}
use Rattle.constriction_chain.proofs.coder.ChainCoder.into_raw_parts.Goals as goal

pub returns-clause-coder : goal.returns-clause-coder
returns-clause-coder g c =
    let law = g.met.Word.Natural.number_law in
    let parts = c.parts-left_over.ensures in
    rw (← c.self.view_is) (coder_of _ _ _ g.Word.Natural.number law _ _ _ _ _ _ parts.sized parts.some (law _) parts.window)
