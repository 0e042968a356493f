use Rattle.std.proofs.Common.{◌-◌, arith, drop, length}
use Rattle.std.proofs.lemmas.List.{length-take}
use Rattle.constriction_base.proofs.Sizes.{pow_le}
use Rattle.constriction_models.specs.laws.Categorical.{categorical_has, categorical_impossible}
use Rattle.constriction_models.proofs.Searching.{split_whole}
use Rattle.constriction_models.proofs.Words.{power_in_word}
use Rattle.constriction_models.proofs.categorical.CategoricalCounts.interval_of.Goals as goal

pub returns-then-symbol-counts-clause-impossible : goal.returns-then-symbol-counts-clause-impossible
returns-then-symbol-counts-clause-impossible g c = categorical_impossible g.row.PRECISION c.args.counts.now c.args.symbol c.if-symbol-counts.true

pub sum_of-before-requires : goal.sum_of-before-requires
sum_of-before-requires g c =
    omega (arith, length-take c.args.symbol c.args.counts.now, c.requires.counts.few, pow_le g.row.PRECISION 24 c.requires.sizes.1)

pub sum_of-requires : goal.sum_of-requires
sum_of-requires g c =
    let counts = c.args.counts.now in
    let symbol = c.args.symbol in
    omega (arith, length-take (length counts - symbol) (drop symbol counts), c.requires.counts.few, pow_le g.row.PRECISION 24 c.requires.sizes.1)

pub overflow_add-total : goal.overflow_add-total
overflow_add-total g c =
    omega (arith, c.requires.counts.fits, split_whole c.args.symbol _ _ c.args.counts.now (omega (arith, c.if-symbol-counts.false)) c.sum_of-before.ensures c.sum_of.ensures)

pub invariant_of-model : goal.invariant_of-model
invariant_of-model g c =
    let counts = c.requires.counts in
    let sizes = c.requires.sizes in
    record {
      summed = split_whole c.args.symbol _ _ c.args.counts.now (omega (arith, c.if-symbol-counts.false)) c.sum_of-before.ensures c.sum_of.ensures;
      shared = omega (arith, counts.few, power_in_word g.row.PRECISION (omega (arith, sizes.1)));
      some = counts.some;
      most = counts.fits;
      positive = sizes.0;
      few = sizes.1;
      fits = sizes.2;
    }

pub returns-clause-found : goal.returns-clause-found
returns-clause-found g c =
    let e = c.entry.ensures in
    categorical_has g.row.PRECISION c.args.counts.now c.args.symbol _ _ c.if-symbol-counts.false e.lower (omega (arith, e.lower, e.long))
