use Rattle.std.proofs.Common.{refl}
use Rattle.constriction_words.proofs.Masks.{length-bounds}
use Rattle.constriction_words.proofs.bit_array.of_usize.UsizeBitArray.bit_length.Goals as goal

pub returns-clause-below : goal.returns-clause-below
returns-clause-below c = (length-bounds 64 c.args.self _ _ c.ranges.self.fits c.leading_zeros.ensures refl).0

pub returns-clause-least : goal.returns-clause-least
returns-clause-least c = (length-bounds 64 c.args.self _ _ c.ranges.self.fits c.leading_zeros.ensures refl).1
