use Rattle.constriction_words.proofs.Reciprocals.{top, high_fits, made_above, made_below, power_fits}
use Rattle.constriction_words.proofs.reciprocal.Reciprocal.new.Goals.{then-rest-power, else-rest-power}
use Rattle.constriction_words.proofs.reciprocal.Reciprocal.new.Goals as goal

pub div_rem_wide-quotient-requires-clause-fits : goal.div_rem_wide-quotient-requires-clause-fits
div_rem_wide-quotient-requires-clause-fits c =
    let t = top 64 c.args.divisor c.requires c.ranges.divisor.fits in
    rw (t.power, t.moved) (power_fits 64 _ c.args.divisor t.from)

pub returns : goal.returns
returns c =
    let t = top 64 c.args.divisor c.requires c.ranges.divisor.fits in
    let found = c.div_rem_wide-quotient.ensures in (
      c.requires,
      elim c.if-rest-power.branch [
        | then-rest-power w ↦
            let little = rw (found.rest, t.power, t.moved) at w.if-rest-power.true in
            rw (w.result-is, found.quotient, t.power, t.moved) (made_below 64 _ c.args.divisor c.requires little)
        | else-rest-power w ↦
            let much = rw (found.rest, t.power, t.moved) at w.if-rest-power.false in
            rw (w.result-is, found.quotient, t.power, t.moved) (made_above 64 _ c.args.divisor c.requires t.below much)
      ],
    )

pub overflow_add-result : goal.overflow_add-result
overflow_add-result c =
    let t = top 64 c.args.divisor c.requires c.ranges.divisor.fits in
    let much = rw (c.div_rem_wide-quotient.ensures.rest, t.power, t.moved) at c.if-rest-power.false in
    rw (c.div_rem_wide-quotient.ensures.quotient, t.power, t.moved) record { fits = high_fits 64 _ c.args.divisor c.requires t.below c.ranges.divisor.fits much }
