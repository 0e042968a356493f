use Rattle.std.proofs.Common.{◌-◌, ◌/◌, ◌^◌, sym}
use Rattle.constriction_symbol.proofs.Coding.{length_bits}
use Rattle.constriction_symbol.proofs.top_bits.TopBits.count.Goals as goal

pub returns-clause-value : goal.returns-clause-value
returns-clause-value g c =
    rw (← c.self.view_is, c.BITS.ensures) (sym (length_bits (g.Word.Natural.BITS - c.self.inside.room) (g.Word.Natural.number c.self.inside.word / 2 ^ c.self.inside.room)))
