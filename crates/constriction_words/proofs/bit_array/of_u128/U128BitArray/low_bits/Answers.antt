use Rattle.constriction_words.proofs.Masks.{low-mask}
use Rattle.constriction_words.proofs.bit_array.of_u128.U128BitArray.low_bits.Goals as goal

pub returns : goal.returns
returns c = low-mask 128 c.args.self c.args.count c.ranges.self.fits c.requires
