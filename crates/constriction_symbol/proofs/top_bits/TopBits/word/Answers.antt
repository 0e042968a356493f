use Rattle.std.proofs.Common.{◌-◌, ◌/◌, ◌^◌, arith, refl}
use Rattle.constriction_base.proofs.Heads.{shr_below_top}
use Rattle.constriction_symbol.proofs.Coding.{length_bits}
use Rattle.constriction_symbol.proofs.top_bits.TopBits.word.Goals as goal

pub returns-then-room-BITS-clause-bits : goal.returns-then-room-BITS-clause-bits
returns-then-room-BITS-clause-bits g c =
    rw (← c.self.view_is, length_bits (g.Word.Natural.BITS - c.self.inside.room) (g.Word.Natural.number c.self.inside.word / 2 ^ c.self.inside.room), c.shift_right.ensures) refl

pub returns-then-room-BITS-clause-small : goal.returns-then-room-BITS-clause-small
returns-then-room-BITS-clause-small g c =
    rw (← c.self.view_is, length_bits (g.Word.Natural.BITS - c.self.inside.room) (g.Word.Natural.number c.self.inside.word / 2 ^ c.self.inside.room), c.shift_right.ensures)
    (shr_below_top g.Word.Natural.BITS c.self.inside.room (g.Word.Natural.number c.self.inside.word) c.self.invariant (g.met.Word.Natural.number_law c.self.inside.word))

pub returns-then-room-BITS-clause-within : goal.returns-then-room-BITS-clause-within
returns-then-room-BITS-clause-within g c =
    rw (← c.self.view_is, length_bits (g.Word.Natural.BITS - c.self.inside.room) (g.Word.Natural.number c.self.inside.word / 2 ^ c.self.inside.room)) (omega arith)
