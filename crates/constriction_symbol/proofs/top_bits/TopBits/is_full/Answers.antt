use Rattle.std.proofs.Common.{arith, ◌-◌, ◌/◌, ◌^◌}
use Rattle.constriction_symbol.proofs.Coding.{length_bits}
use Rattle.constriction_symbol.proofs.TopLemmas.{full_room}
use Rattle.constriction_symbol.proofs.top_bits.TopBits.is_full.Goals as goal

pub returns-clause-full : goal.returns-clause-full
returns-clause-full g c =
    rw (← c.self.view_is, length_bits (g.Word.Natural.BITS - c.self.inside.room) (g.Word.Natural.number c.self.inside.word / 2 ^ c.self.inside.room))
    (full_room g.Word.Natural.BITS c.self.inside.room c.self.invariant g.met.Word.Natural.bits_law.0)

pub returns-clause-within : goal.returns-clause-within
returns-clause-within g c =
    rw (← c.self.view_is, length_bits (g.Word.Natural.BITS - c.self.inside.room) (g.Word.Natural.number c.self.inside.word / 2 ^ c.self.inside.room)) (omega arith)
