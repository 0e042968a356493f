use Rattle.std.proofs.Common.{rules}
use Rattle.constriction_words.proofs.Reciprocals.{moved_twice, sum_fits}
use Rattle.constriction_words.proofs.reciprocal.Reciprocal.quotient.Goals as goal

pub returns : goal.returns
returns c = λ divisor of. moved_twice 64 c.args.self.multiplier c.args.self.addend c.args.self.shift divisor c.args.number of.1 c.ranges.number.fits

pub overflow_add-product : goal.overflow_add-product
overflow_add-product c = record { fits = sum_fits 64 c.args.number c.args.self.multiplier c.args.self.addend c.ranges.number.fits (search rules) (search rules) }
