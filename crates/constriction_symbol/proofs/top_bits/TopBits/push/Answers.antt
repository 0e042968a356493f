use Rattle.std.proofs.Common.{◌-◌, ◌/◌, ◌<◌, ◌^◌, arith}
use Rattle.constriction_symbol.proofs.Coding.{length_bits}
use Rattle.constriction_symbol.proofs.TopLemmas.{more_at_top, half_room, highest_room}
use Rattle.constriction_symbol.proofs.top_bits.TopBits.push.Goals as goal

pub plus-self-inside-requires : goal.plus-self-inside-requires
plus-self-inside-requires g c =
    let wide = g.met.Word.Natural.bits_law.0 in
    let half = half_room g.Word.Natural.BITS _ _ (omega (arith, wide)) (g.met.Word.Natural.number_law c.self.inside.word) c.shift_right.ensures in
    rw c.highest.ensures (highest_room g.Word.Natural.BITS _ c.args.bit (omega (arith, wide)) half)

pub overflow_sub-self : goal.overflow_sub-self
overflow_sub-self g c =
    let room : g.Word.Natural.BITS - c.self.inside.room < g.Word.Natural.BITS = rw (← c.self.view_is, length_bits (g.Word.Natural.BITS - c.self.inside.room) (g.Word.Natural.number c.self.inside.word / 2 ^ c.self.inside.room)) at c.requires in
    omega (arith, room)

pub returns : goal.returns
returns g c =
    let n = g.Word.Natural.number in
    let b = g.Word.Natural.BITS in
    let room : b - c.self.inside.room < b = rw (← c.self.view_is, length_bits (b - c.self.inside.room) (n c.self.inside.word / 2 ^ c.self.inside.room)) at c.requires in
    let is = rw (c.shift_right.ensures, c.highest.ensures) at c.plus-self-inside.ensures in
    rw (← c.self.view_is)
    (more_at_top b c.self.inside.room (n c.self.inside.word) (n c.plus-self-inside.result) c.args.bit c.self.invariant (omega (arith, room)) (g.met.Word.Natural.number_law c.self.inside.word) is)
