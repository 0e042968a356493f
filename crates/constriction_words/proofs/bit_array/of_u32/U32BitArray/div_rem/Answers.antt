use Rattle.std.proofs.Common.{◌^◌, ◌/◌, arith}
use Rattle.std.proofs.lemmas.Nat.{div-add-mod', pow_pos}
use Rattle.constriction_words.proofs.Divisions.{exact, near, of_words, one_more, within}
use Rattle.constriction_words.proofs.bit_array.of_u32.U32BitArray.div_rem.Goals as goal

pub overflow_sub-rest : goal.overflow_sub-rest
overflow_sub-rest c =
    within (2 ^ 32) c.args.other (4294967295 / c.args.other) c.args.self (pow_pos 32) (omega (arith, div-add-mod' 4294967295 c.args.other))

pub returns-then-rest-other-clause-quotient : goal.returns-then-rest-other-clause-quotient
returns-then-rest-other-clause-quotient c =
    let n = c.args.self in
    let p = c.args.other in
    let at_most = within (2 ^ 32) p (4294967295 / p) n (pow_pos 32) (omega (arith, div-add-mod' 4294967295 p)) in
    (of_words 32 n p _ _ c.ranges.self.fits c.ranges.other.fits (exact n p _ at_most c.if-rest-other.true)).0

pub returns-then-rest-other-clause-rest : goal.returns-then-rest-other-clause-rest
returns-then-rest-other-clause-rest c =
    let n = c.args.self in
    let p = c.args.other in
    let at_most = within (2 ^ 32) p (4294967295 / p) n (pow_pos 32) (omega (arith, div-add-mod' 4294967295 p)) in
    (of_words 32 n p _ _ c.ranges.self.fits c.ranges.other.fits (exact n p _ at_most c.if-rest-other.true)).1

pub returns-else-rest-other-clause-quotient : goal.returns-else-rest-other-clause-quotient
returns-else-rest-other-clause-quotient c =
    let n = c.args.self in
    let p = c.args.other in
    let at_most = within (2 ^ 32) p (4294967295 / p) n (pow_pos 32) (omega (arith, div-add-mod' 4294967295 p)) in
    let close = near (2 ^ 32) p n (omega arith) (pow_pos 32) c.ranges.self.fits in
    (of_words 32 n p _ _ c.ranges.self.fits c.ranges.other.fits (one_more n p _ at_most c.if-rest-other.false (omega (arith, close)))).0

pub returns-else-rest-other-clause-rest : goal.returns-else-rest-other-clause-rest
returns-else-rest-other-clause-rest c =
    let n = c.args.self in
    let p = c.args.other in
    let at_most = within (2 ^ 32) p (4294967295 / p) n (pow_pos 32) (omega (arith, div-add-mod' 4294967295 p)) in
    let close = near (2 ^ 32) p n (omega arith) (pow_pos 32) c.ranges.self.fits in
    (of_words 32 n p _ _ c.ranges.self.fits c.ranges.other.fits (one_more n p _ at_most c.if-rest-other.false (omega (arith, close)))).1
