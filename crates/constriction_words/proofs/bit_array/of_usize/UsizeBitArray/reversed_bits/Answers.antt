use Rattle.constriction_words.proofs.Bits.{bits_reversed}
use Rattle.constriction_words.proofs.bit_array.of_usize.UsizeBitArray.reversed_bits.Goals as goal

pub returns : goal.returns
returns c = bits_reversed 64 c.args.self _ c.ranges.self.fits c.reversed_long.ensures
