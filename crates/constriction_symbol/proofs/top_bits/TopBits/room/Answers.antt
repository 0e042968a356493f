use Rattle.std.proofs.Common.{◌-◌, ◌/◌, ◌^◌, arith}
use Rattle.constriction_symbol.proofs.Coding.{length_bits}
use Rattle.constriction_symbol.proofs.top_bits.TopBits.room.Goals as goal

pub returns : goal.returns
returns g c =
    rw (← c.self.view_is, length_bits (g.Word.Natural.BITS - c.self.inside.room) (g.Word.Natural.number c.self.inside.word / 2 ^ c.self.inside.room)) (omega (arith, c.self.invariant))
