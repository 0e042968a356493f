use Rattle.std.proofs.Common.{◌≡◌, ◌-◌, ◌/◌, ◌^◌, arith, refl}
use Rattle.constriction_symbol.proofs.Coding.{length_bits}
use Rattle.constriction_symbol.proofs.top_bits.TopBits.top_word.Goals as goal

pub returns-clause-bits : goal.returns-clause-bits
returns-clause-bits g c =
    let back : g.Word.Natural.BITS - (g.Word.Natural.BITS - c.self.inside.room) ≡ c.self.inside.room = omega (arith, c.self.invariant) in
    rw (← c.self.view_is, length_bits (g.Word.Natural.BITS - c.self.inside.room) (g.Word.Natural.number c.self.inside.word / 2 ^ c.self.inside.room), back) refl

pub returns-clause-within : goal.returns-clause-within
returns-clause-within g c =
    rw (← c.self.view_is, length_bits (g.Word.Natural.BITS - c.self.inside.room) (g.Word.Natural.number c.self.inside.word / 2 ^ c.self.inside.room)) (omega arith)
