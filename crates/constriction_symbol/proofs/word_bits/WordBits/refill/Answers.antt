use Rattle.constriction_symbol.proofs.ReversedBits.{first_popped}
use Rattle.constriction_symbol.proofs.word_bits.WordBits.refill.Goals as goal

pub returns : goal.returns
returns g c =
    let n = g.Word.Natural.number in
    first_popped g.Word.Natural.BITS (n c.args.word) (n c.reversed_bits.result) c.all-self-inside.result c.pop.new.self c.pop.result c.reversed_bits.ensures c.all-self-inside.ensures c.pop.ensures
