use Rattle.std.proofs.Common.{◌≡◌, ◌*◌, ◌/◌, ◌%◌, ◌<◌, arith}
use Rattle.std.proofs.Math.Nat.{mod-eq_of_lt}
use Rattle.std.proofs.lemmas.Nat.{div_below, mod_below}
use Rattle.constriction_words.proofs.Divisions.{long}
use Rattle.constriction_words.proofs.division.div_rem_wide.Goals as goal

pub returns-clause-quotient : goal.returns-clause-quotient
returns-clause-quotient c =
    let n = c.args.dividend in
    let p = c.args.divisor in
    let left : n / 4294967296 % p < p = mod_below (n / 4294967296) p c.requires.some in
    let high : n / 4294967296 < p * 4294967296 = div_below n 4294967296 (p * 4294967296) (omega arith) (omega (arith, c.requires.fits)) in
    let first : n / 4294967296 / p < 4294967296 = div_below (n / 4294967296) p 4294967296 c.requires.some (omega (arith, high)) in
    let digit : n / 4294967296 / p * 4294967296 % 18446744073709551616 ≡ n / 4294967296 / p * 4294967296 = mod-eq_of_lt (omega (arith, first)) in
    let moved : n / 4294967296 % p * 4294967296 % 18446744073709551616 ≡ n / 4294967296 % p * 4294967296 = mod-eq_of_lt (omega (arith, left, c.if-divisor-gt4294967295.false)) in
    rw (c.div_rem-second.ensures.quotient, c.div_rem-first.ensures.quotient, c.div_rem-first.ensures.rest, digit, moved) (long 4294967296 n p (omega arith) c.requires.some).0

pub returns-clause-rest : goal.returns-clause-rest
returns-clause-rest c =
    let n = c.args.dividend in
    let p = c.args.divisor in
    let left : n / 4294967296 % p < p = mod_below (n / 4294967296) p c.requires.some in
    let moved : n / 4294967296 % p * 4294967296 % 18446744073709551616 ≡ n / 4294967296 % p * 4294967296 = mod-eq_of_lt (omega (arith, left, c.if-divisor-gt4294967295.false)) in
    rw (c.div_rem-second.ensures.rest, c.div_rem-first.ensures.rest, moved) (long 4294967296 n p (omega arith) c.requires.some).1
