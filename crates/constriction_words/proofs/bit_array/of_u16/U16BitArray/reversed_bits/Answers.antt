use Rattle.constriction_words.proofs.Bits.{bits_reversed, kit_reversed}
use Rattle.constriction_words.proofs.bit_array.of_u16.U16BitArray.reversed_bits.Goals as goal

pub returns : goal.returns
returns c = bits_reversed 16 c.args.self _ c.ranges.self.fits (kit_reversed 16 _ _ c.reverse_bits.ensures)
