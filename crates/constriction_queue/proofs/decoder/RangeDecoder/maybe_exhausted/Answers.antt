use Rattle.std.proofs.Common.{◌^◌, sym}
use Rattle.constriction_queue.proofs.Distances.{distance_of}
use Rattle.constriction_queue.proofs.decoder.RangeDecoder.maybe_exhausted.Goals as goal

pub returns-then-maybe_exhausted : goal.returns-then-maybe_exhausted
returns-then-maybe_exhausted g c =
    let d = g.State.Natural.number c.self.inside.distance in
    let l = g.State.Natural.number c.self.inside.state.lower in
    let far = distance_of d l (2 ^ g.State.Natural.BITS) (g.met.State.Natural.number_law _) (g.met.State.Natural.number_law _) in
    let seems = sym c.if-maybe_exhausted.ensures.value in
    rw (← c.self.view_is, far) (λ on. (seems, c.ends_here.ensures.0 on), λ h. c.ends_here.ensures.1 h.1)
