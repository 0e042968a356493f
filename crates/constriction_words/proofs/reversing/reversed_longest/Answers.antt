use Rattle.constriction_words.proofs.Bits.{halves_reversed}
use Rattle.constriction_words.proofs.reversing.reversed_longest.Goals as goal

pub returns : goal.returns
returns c =
    halves_reversed 64 c.args.word _ _ c.reversed_long-high.type_inv c.reversed_long-low.ensures c.reversed_long-high.ensures
