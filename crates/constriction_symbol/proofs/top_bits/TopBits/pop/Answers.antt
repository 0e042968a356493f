use Rattle.std.proofs.Common.{◌-◌, ◌/◌, ◌<◌, ◌^◌, arith}
use Rattle.constriction_symbol.proofs.Coding.{length_bits}
use Rattle.constriction_symbol.proofs.TopLemmas.{less_at_top}
use Rattle.constriction_symbol.proofs.top_bits.TopBits.pop.Goals as goal

pub returns : goal.returns
returns g c =
    let n = g.Word.Natural.number in
    let b = g.Word.Natural.BITS in
    let some : 0 < b - c.self.inside.room = rw (← c.self.view_is, length_bits (b - c.self.inside.room) (n c.self.inside.word / 2 ^ c.self.inside.room)) at c.requires in
    let high = rw c.BITS.ensures at c.shift_right.ensures in
    let low = rw c.BITS-2.ensures at c.low_bits-rest.ensures in
    rw (← c.self.view_is)
    (less_at_top b c.self.inside.room (n c.self.inside.word) (n c.low_bits-rest.result) (n c.plus-self-inside.result) (n c.shift_right.result) c.is_nothing-bit.result (omega (arith, some)) (g.met.Word.Natural.number_law c.self.inside.word)
    low c.plus-self-inside.ensures high c.is_nothing-bit.ensures)
