use Rattle.constriction_words.proofs.Bits.{bits_reversed}
use Rattle.constriction_words.proofs.bit_array.of_u128.U128BitArray.reversed_bits.Goals as goal

pub returns : goal.returns
returns c = bits_reversed 128 c.args.self _ c.ranges.self.fits c.reversed_longest.ensures
