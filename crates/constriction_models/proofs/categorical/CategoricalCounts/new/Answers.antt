use Rattle.std.proofs.Common.{arith}
use Rattle.constriction_base.proofs.Sizes.{pow_le}
use Rattle.constriction_models.proofs.Words.{power_in_word}
use Rattle.constriction_models.proofs.categorical.CategoricalCounts.new.Goals as goal

pub sum_of-total-requires : goal.sum_of-total-requires
sum_of-total-requires g c =
    let few = c.requires.sizes.1 in
    omega (arith, c.if-symbols-all.false, power_in_word g.row.PRECISION (omega (arith, few)), pow_le g.row.PRECISION 24 few)
