use Rattle.std.proofs.Common.{refl}
use Rattle.constriction_queue.proofs.Encoders.{is_encoder}
use Rattle.constriction_queue.proofs.encoder.symbols.RangeEncoderCode.state.Goals as goal

pub returns : goal.returns
returns g c =
    rw (← c.self.view_is) (refl, refl, is_encoder g.Word.Natural.number g.Backend.Holds _ _ _ _ _ c.self.inside.situation c.self.invariant.0 c.self.invariant.1 c.self.inside.state.wide (g.met.State.Natural.number_law _) (g.met.State.Natural.number_law _))
