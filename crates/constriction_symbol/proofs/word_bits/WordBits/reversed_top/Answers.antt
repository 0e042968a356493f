use Rattle.constriction_symbol.proofs.ReversedBits.{top_reversed}
use Rattle.constriction_symbol.proofs.word_bits.WordBits.reversed_top.Goals as goal

pub returns-clause-bits : goal.returns-clause-bits
returns-clause-bits g c =
    rw (← c.self.view_is) (top_reversed g.Word.Natural.BITS (g.Word.Natural.number c.top_word.result) c.self.inside.reversed c.top_word.ensures.bits)
