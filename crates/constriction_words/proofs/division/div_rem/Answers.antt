use Rattle.std.proofs.Common.{◌^◌, arith}
use Rattle.std.proofs.lemmas.Nat.{pow_pos}
use Rattle.constriction_words.proofs.Divisions.{exact, one_more, within}
use Rattle.constriction_words.proofs.division.div_rem.Goals as goal

pub overflow_sub-rest : goal.overflow_sub-rest
overflow_sub-rest c = within (2 ^ 64) c.args.divisor c.inverse-inverse.result c.args.dividend (pow_pos 64) (omega (arith, c.inverse-inverse.ensures))

pub returns-then-rest-divisor-clause-quotient : goal.returns-then-rest-divisor-clause-quotient
returns-then-rest-divisor-clause-quotient c =
    let at_most = within (2 ^ 64) c.args.divisor c.inverse-inverse.result c.args.dividend (pow_pos 64) (omega (arith, c.inverse-inverse.ensures)) in
    (exact c.args.dividend c.args.divisor _ at_most c.if-rest-divisor.true).0

pub returns-then-rest-divisor-clause-rest : goal.returns-then-rest-divisor-clause-rest
returns-then-rest-divisor-clause-rest c =
    let at_most = within (2 ^ 64) c.args.divisor c.inverse-inverse.result c.args.dividend (pow_pos 64) (omega (arith, c.inverse-inverse.ensures)) in
    (exact c.args.dividend c.args.divisor _ at_most c.if-rest-divisor.true).1

pub returns-then-beyond-divisor-clause-quotient : goal.returns-then-beyond-divisor-clause-quotient
returns-then-beyond-divisor-clause-quotient c =
    let at_most = within (2 ^ 64) c.args.divisor c.inverse-inverse.result c.args.dividend (pow_pos 64) (omega (arith, c.inverse-inverse.ensures)) in
    (one_more c.args.dividend c.args.divisor _ at_most c.if-rest-divisor.false c.if-beyond-divisor.true).0

pub returns-then-beyond-divisor-clause-rest : goal.returns-then-beyond-divisor-clause-rest
returns-then-beyond-divisor-clause-rest c =
    let at_most = within (2 ^ 64) c.args.divisor c.inverse-inverse.result c.args.dividend (pow_pos 64) (omega (arith, c.inverse-inverse.ensures)) in
    (one_more c.args.dividend c.args.divisor _ at_most c.if-rest-divisor.false c.if-beyond-divisor.true).1
