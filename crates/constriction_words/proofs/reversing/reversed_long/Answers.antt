use Rattle.constriction_words.proofs.Bits.{halves_reversed, kit_reversed}
use Rattle.constriction_words.proofs.reversing.reversed_long.Goals as goal

pub returns : goal.returns
returns c =
    halves_reversed 32 c.args.word _ _ c.reverse_bits-high.type_inv
    (kit_reversed 32 _ _ c.reverse_bits-low.ensures) (kit_reversed 32 _ _ c.reverse_bits-high.ensures)
