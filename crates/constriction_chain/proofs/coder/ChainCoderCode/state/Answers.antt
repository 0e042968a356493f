use Rattle.std.proofs.Common.{refl}
use Rattle.constriction_chain.proofs.Chains.{coder_of}
use Rattle.constriction_chain.proofs.coder.ChainCoderCode.state.Goals as goal

pub returns : goal.returns
returns g c =
    let law = g.met.Word.Natural.number_law in
    let parts = c.parts-compressed.ensures in
    rw (← c.self.view_is, c.of.ensures, parts.parts) (refl, refl, coder_of _ _ _ g.Word.Natural.number law _ _ _ _ _ _ parts.sized parts.some (law _) parts.window)
