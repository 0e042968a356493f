use Rattle.std.proofs.Common.{◌^◌, Bool, true, false, IsTrue, sym}
use Rattle.std.specs.Bool.{OnFalse}
use Rattle.constriction_queue.proofs.Distances.{distance_of}
use Rattle.constriction_queue.proofs.decoder.symbols.RangeDecoderDecode.maybe_exhausted.Goals as goal

off_of : (b : Bool) (P : Type 0) → (P → IsTrue b) → OnFalse b (P → ⊥)
off_of true P h = tt
off_of false P h = λ p. let on = h p in absurd (cc)

pub returns-then-maybe_exhausted-clause-value : goal.returns-then-maybe_exhausted-clause-value
returns-then-maybe_exhausted-clause-value g c =
    let d = g.State.Natural.number c.self.inside.distance in
    let l = g.State.Natural.number c.self.inside.state.lower in
    let far = distance_of d l (2 ^ g.State.Natural.BITS) (g.met.State.Natural.number_law _) (g.met.State.Natural.number_law _) in
    let seems = sym c.if-maybe_exhausted.ensures.value in
    rw (← c.self.view_is, far) (λ on. (seems, c.ends_here.ensures.0 on), λ h. c.ends_here.ensures.1 h.1)

pub returns-then-maybe_exhausted-clause-data : goal.returns-then-maybe_exhausted-clause-data
returns-then-maybe_exhausted-clause-data g c =
    let d = g.State.Natural.number c.self.inside.distance in
    let l = g.State.Natural.number c.self.inside.state.lower in
    let far = distance_of d l (2 ^ g.State.Natural.BITS) (g.met.State.Natural.number_law _) (g.met.State.Natural.number_law _) in
    rw (← c.self.view_is, far) (off_of c.ends_here.result _ (λ h. c.ends_here.ensures.1 h.1))
