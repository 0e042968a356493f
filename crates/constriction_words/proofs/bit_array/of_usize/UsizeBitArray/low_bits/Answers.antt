use Rattle.constriction_words.proofs.Masks.{low-mask}
use Rattle.constriction_words.proofs.bit_array.of_usize.UsizeBitArray.low_bits.Goals as goal

pub returns : goal.returns
returns c = low-mask 64 c.args.self c.args.count c.ranges.self.fits c.requires
