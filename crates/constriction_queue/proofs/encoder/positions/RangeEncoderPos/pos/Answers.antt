use Rattle.std.specs.Prelude.{◌≡◌, ◌++◌, length, map}
use Rattle.std.proofs.Common.{arith, refl}
use Rattle.constriction_queue.specs.Encoder.{pending_of}
use Rattle.constriction_queue.proofs.Encoders.{is_encoder, low_is, moves_are}
use Rattle.constriction_queue.proofs.encoder.positions.RangeEncoderPos.pos.Goals as goal

pub returns : goal.returns
returns g c =
    let number = g.Word.Natural.number in
    let words = g.Backend.Holds.words c.self.inside.bulk in
    let held = pending_of number g.Word.Natural.BITS c.self.inside.situation in
    let place = g.met.Backend.CountsWords.count_law c.self.inside.bulk c.pos.result c.pos.ensures in
    let count : c.pending_count.result ≡ length held = rw (← c.self.view_is) at c.pending_count.ensures in
    rw (← c.self.view_is) (
      record {
        place_is = omega (arith, place, count, moves_are number held words);
        lower_is = low_is g.Word.Natural.BITS g.State.Natural.BITS _ (g.State.Natural.number c.self.inside.state.range) (held ++ map number words) (g.met.State.Natural.number_law _);
        range_is = refl;
      },
      is_encoder number g.Backend.Holds _ _ _ _ _ c.self.inside.situation c.self.invariant.0 c.self.invariant.1 c.self.inside.state.wide (g.met.State.Natural.number_law _) (g.met.State.Natural.number_law _),
    )
