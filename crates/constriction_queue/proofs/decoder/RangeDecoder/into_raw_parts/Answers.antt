use Rattle.std.proofs.Common.{mod-lt, pow_pos}
use Rattle.constriction_queue.proofs.Decoders.{is_decoder}
use Rattle.constriction_queue.proofs.decoder.RangeDecoder.into_raw_parts.Goals as goal

pub returns-clause-coder : goal.returns-clause-coder
returns-clause-coder g c =
    rw (← c.self.view_is) (is_decoder g.Word.Natural.number g.Backend.Holds _ _ _ _ _ _ c.self.invariant c.self.inside.state.wide (g.met.State.Natural.number_law _) (g.met.State.Natural.number_law _) (mod-lt _ (pow_pos g.State.Natural.BITS)))
