use Rattle.std.proofs.Common.{arith, ap}
use Rattle.constriction_base.proofs.Sizes.{pow_le}
use Rattle.constriction_models.specs.Categorical.{categorical}
use Rattle.constriction_models.proofs.Cumulating.{differences_are, length_are, sum_are, sums_of_differences}
use Rattle.constriction_models.proofs.Words.{power_in_word}
use Rattle.constriction_models.proofs.cumulative.CumulativeCounts.new.Goals as goal

pub sums_of-requires-clause-few : goal.sums_of-requires-clause-few
sums_of-requires-clause-few g c =
    let few = c.requires.sizes.1 in
    omega (arith, c.if-symbols-all.false, power_in_word g.row.PRECISION (omega (arith, few)), pow_le g.row.PRECISION 24 few)

pub invariant_of-result : goal.invariant_of-result
invariant_of-result g c =
    let number = g.C.Natural.number in
    let counts = c.args.counts.now in
    let sums = c.in-Some-sums_of.sums.items in
    let made = c.in-Some-sums_of.ensures in
    let sizes = c.requires.sizes in
    let total = c.in-Some.ensures.total in
    record {
      listed = sums_of_differences number counts sums made;
      summed = omega (arith, total, sum_are number counts sums made);
      shared = omega (arith, length_are number counts sums made, c.if-symbols-all.false, power_in_word g.row.PRECISION (omega (arith, sizes.1)));
      some = omega (arith, total, sum_are number counts sums made, c.if-total-eq0.false);
      most = omega (arith, total, sum_are number counts sums made, c.in-Some.ensures.fits);
      positive = sizes.0;
      few = sizes.1;
      fits = sizes.2;
    }

pub returns-clause-ok : goal.returns-clause-ok
returns-clause-ok g c =
    ap (categorical g.row.PRECISION) (differences_are g.C.Natural.number c.args.counts.now c.in-Some-sums_of.sums.items c.in-Some-sums_of.ensures)
