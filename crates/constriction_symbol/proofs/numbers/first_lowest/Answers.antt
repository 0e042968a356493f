use Rattle.constriction_symbol.proofs.WordLemmas.{highest_reversed, highest_small}
use Rattle.constriction_symbol.proofs.numbers.first_lowest.Goals as goal

pub returns-clause-bits : goal.returns-clause-bits
returns-clause-bits g c =
    let n = g.Word.Natural.number in
    let b = g.Word.Natural.BITS in
    let high = rw c.BITS.ensures at c.shift_right.ensures in
    rw high (highest_reversed b c.args.count (n c.args.bits) (n c.reversed_bits.result) c.requires.within c.reversed_bits.ensures)

pub returns-clause-small : goal.returns-clause-small
returns-clause-small g c =
    let n = g.Word.Natural.number in
    let b = g.Word.Natural.BITS in
    highest_small b c.args.count (n c.reversed_bits.result) (n c.shift_right.result) c.requires.within (g.met.Word.Natural.number_law c.reversed_bits.result) (rw c.BITS.ensures at c.shift_right.ensures)
