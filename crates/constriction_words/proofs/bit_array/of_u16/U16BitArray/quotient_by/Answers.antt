use Rattle.constriction_words.proofs.Reciprocals.{quotient_fits}
use Rattle.constriction_words.proofs.bit_array.of_u16.U16BitArray.quotient_by.Goals as goal

pub returns : goal.returns
returns c = quotient_fits 16 c.args.self _ c.quotient.result c.ranges.self.fits (c.quotient.ensures _ c.requires)
