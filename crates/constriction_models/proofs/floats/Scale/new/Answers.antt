use Rattle.std.proofs.Common.{◌≤◌, arith}
use lib.Count.{count_leading_zeros}
use Rattle.constriction_models.specs.Floats.{significand}
use Rattle.constriction_models.proofs.Floating.{scale_lifts, exponent_few}
use Rattle.constriction_models.proofs.floats.Scale.new.Goals as goal

pub overflow_sub-lift : goal.overflow_sub-lift
overflow_sub-lift c = rw c.read_significand.ensures (scale_lifts c.args.most c.requires.some c.requires.finite)

pub overflow_add-rise : goal.overflow_add-rise
overflow_add-rise c = omega (arith, c.read_exponent.ensures, exponent_few c.args.most c.requires.finite)

pub invariant_of-result : goal.invariant_of-result
invariant_of-result c =
    let lifts : 2 ≤ count_leading_zeros 64 (significand c.args.most) = scale_lifts c.args.most c.requires.some c.requires.finite in
    record {
      scaled = record {
        some = c.requires.some;
        finite = c.requires.finite;
        few = c.requires.few;
        lifted = rw c.read_significand.ensures (omega (arith, lifts));
        risen = rw c.read_exponent.ensures;
      };
    }
