use Rattle.std.proofs.Common.{ap, arith}
use Rattle.std.proofs.lemmas.Bool.Decides.{nat_tests}
use Rattle.std.proofs.lemmas.List.Sums.{sum_by_more}
use Rattle.std.proofs.Math.Pow.{pow_mono}
use Rattle.std.proofs.Common.{pow_pos}
use Rattle.std.proofs.Common.{◌+◌, true, false, rules}
use Rattle.std.specs.Prelude.{sum_by}
use Rattle.std.proofs.lemmas.List.{take_all}
use Rattle.std.proofs.lemmas.List.Sums.{sum_by-take-le}
use Rattle.constriction_base.proofs.Heads.{some_of_test}
use Rattle.constriction_base.proofs.weights.starts.known_symbols.Goals as goal
use Rattle.constriction_base.proofs.weights.starts.known_symbols.Goals.{then-not-is_nothing+else-known-gt0+else-is_below+then-is_below-2, then-not-is_nothing+else-known-gt0+else-is_below+else-is_below-2, else-not-is_nothing}

pub plus-left-requires : goal.plus-left-requires
plus-left-requires g c = grind (arith, nat_tests, pow_mono c.requires.1)

pub loop-i-preserved : goal.loop-i-preserved
loop-i-preserved g c =
    let number = g.Probability.Natural.number in
    let i = c.loop-i.invariant in
    let more = sum_by_more number c.args.weights.now c.loop-i.i c.index-weights-i.result (omega arith) in
    let item = ap number c.index-weights-i.is in
    elim c.if-not-is_nothing.branch [
      | then-not-is_nothing+else-known-gt0+else-is_below+then-is_below-2 w ↦ (
          let left = ap number w.left-is in
          record {
            small = grind (arith, nat_tests, more, item);
            within = grind (arith, nat_tests, more, item);
            before = grind (arith, nat_tests, more, item);
            less = grind (arith, nat_tests, more, item);
            last = grind (arith, nat_tests, more, item);
            total_to = grind (arith, nat_tests, more, item);
            total_of = grind (arith, nat_tests, more, item);
          })
      | then-not-is_nothing+else-known-gt0+else-is_below+else-is_below-2 w ↦ (
          let left = ap number w.left-is in
          record {
            small = grind (arith, nat_tests, more, item);
            within = grind (arith, nat_tests, more, item);
            before = grind (arith, nat_tests, more, item);
            less = grind (arith, nat_tests, more, item);
            last = grind (arith, nat_tests, more, item);
            total_to = grind (arith, nat_tests, more, item);
            total_of = grind (arith, nat_tests, more, item);
          })
      | else-not-is_nothing w ↦ (
          let left = ap number w.left-is in
          record {
            small = grind (arith, nat_tests, more, item);
            within = grind (arith, nat_tests, more, item);
            before = grind (arith, nat_tests, more, item);
            less = grind (arith, nat_tests, more, item);
            last = grind (arith, nat_tests, more, item);
            total_to = grind (arith, nat_tests, more, item);
            total_of = grind (arith, nat_tests, more, item);
          })
    ]

pub ones-last-requires : goal.ones-last-requires
ones-last-requires g c = c.requires

pub loop-i-init : goal.loop-i-init
loop-i-init g c = record {
  small = omega (arith, c.nothing-left.ensures, pow_pos g.row.PRECISION);
  within = omega arith;
  before = λ _. c.nothing-left.ensures;
  less = λ some. absurd (omega (arith, some));
  last = λ some. absurd (omega (arith, some));
  total_to = λ some. absurd (omega (arith, some));
  total_of = λ some. absurd (omega (arith, some));
}

pub offset_bounds-weights-i : goal.offset_bounds-weights-i
offset_bounds-weights-i g c = omega (arith, c.loop-i-test.true)

pub bounds-weights-i : goal.bounds-weights-i
bounds-weights-i g c = c.loop-i-test.true

pub returns-then-known-gt0-clause-ok : goal.returns-then-known-gt0-clause-ok
returns-then-known-gt0-clause-ok g c = tt

pub minus-rest-requires : goal.minus-rest-requires
minus-rest-requires g c = omega (arith, c.loop-i.invariant.small, c.ones-last.ensures)

pub returns-then-is_below-clause-ok : goal.returns-then-is_below-clause-ok
returns-then-is_below-clause-ok g c = tt

pub returns-then-known-gt0-2-clause-none : goal.returns-then-known-gt0-2-clause-none
returns-then-known-gt0-2-clause-none g c = tt

pub returns-else-known-gt0-2-clause-ok : goal.returns-else-known-gt0-2-clause-ok
returns-else-known-gt0-2-clause-ok g c = tt

pub minus-less-requires : goal.minus-less-requires
minus-less-requires g c =
    let some = some_of_test c.is_nothing.result _ c.is_nothing.ensures (search rules) in
    omega (arith, c.unit-one.ensures, some)

-- what has the total before it has no weight more
pub returns-then-known-gt0-clause-none : goal.returns-then-known-gt0-clause-none
returns-then-known-gt0-clause-none g c = λ all.
    let number = g.Probability.Natural.number in
    let weights = c.args.weights.now in
    let some = some_of_test c.is_nothing.result _ c.is_nothing.ensures (search rules) in
    let more = sum_by_more number weights c.loop-i.i c.index-weights-i.result c.loop-i-test.true in
    omega (arith, all, some, more, ap number c.index-weights-i.is, sum_by-take-le number weights (c.loop-i.i + 1), c.loop-i.invariant.total_of c.if-known-gt0.true)

pub returns-then-is_below-clause-none : goal.returns-then-is_below-clause-none
returns-then-is_below-clause-none g c = λ all.
    let number = g.Probability.Natural.number in
    let weights = c.args.weights.now in
    let some = some_of_test c.is_nothing.result _ c.is_nothing.ensures (search rules) in
    let more = sum_by_more number weights c.loop-i.i c.index-weights-i.result c.loop-i-test.true in
    let left = c.loop-i.invariant.before (omega (arith, c.if-known-gt0.false)) in
    omega (arith, all, some, more, left, ap number c.index-weights-i.is, sum_by-take-le number weights (c.loop-i.i + 1), c.is_below.ensures.0 c.if-is_below.true, c.minus-rest.ensures, c.minus-less.ensures, c.ones-last.ensures, c.unit-one.ensures)

pub returns-then-known-gt0-2-clause-ok : goal.returns-then-known-gt0-2-clause-ok
returns-then-known-gt0-2-clause-ok g c =
    let number = g.Probability.Natural.number in
    let i = c.loop-i.invariant in
    let some = c.if-known-gt0-2.true in
    let all = ap (sum_by number) (take_all c.loop-i.i c.args.weights.now (omega (arith, c.loop-i-test.false))) in
    record {
      some = some;
      within = omega (arith, i.within, c.loop-i.auto.i-end);
      less = i.less some;
      last = i.last some;
      total_to = i.total_to some;
      total_of = omega (arith, all, i.total_of some);
    }

pub returns-else-known-gt0-2-clause-none : goal.returns-else-known-gt0-2-clause-none
returns-else-known-gt0-2-clause-none g c = λ total.
    let i = c.loop-i.invariant in
    let all = ap (sum_by g.Probability.Natural.number) (take_all c.loop-i.i c.args.weights.now (omega (arith, c.loop-i-test.false))) in
    omega (arith, total, all, i.small, i.before (omega (arith, c.if-known-gt0-2.false)))
