use Rattle.std.specs.Prelude.{◌≡◌, ℕ, ◌+◌, ◌*◌, ◌/◌, ◌<◌}
use Rattle.std.proofs.Common.{refl, arith}
use Rattle.constriction_models.proofs.Dividing.{IsNear, is_near, quotient_of, over_of}
use Rattle.constriction_models.proofs.counts.Share.div_rem.Goals as goal

near : (count mass rest rate : ℕ) → 0 < rest → count < 18446744073709551616 → rate ≡ mass * 79228162514264337593543950336 / rest → IsNear count mass rest (count * rate / 79228162514264337593543950336)
near count mass rest rate some fits is = is_near 79228162514264337593543950336 count mass rest rate (count * rate / 79228162514264337593543950336) some (omega arith) (omega (arith, fits)) is refl

pub overflow_sub-past : goal.overflow_sub-past
overflow_sub-past c =
    let s = c.args.self.now in
    (near c.args.count s.mass s.rest s.rate s.some c.ranges.count.fits s.rated).low

pub returns-then-past-self-clause-whole : goal.returns-then-past-self-clause-whole
returns-then-past-self-clause-whole c =
    let s = c.args.self.now in
    let n = near c.args.count s.mass s.rest s.rate s.some c.ranges.count.fits s.rated in
    quotient_of (c.args.count * s.mass) s.rest _ n.low (omega (arith, c.if-past-self.true, n.low))

pub returns-then-past-self-clause-over : goal.returns-then-past-self-clause-over
returns-then-past-self-clause-over c =
    let s = c.args.self.now in
    let n = near c.args.count s.mass s.rest s.rate s.some c.ranges.count.fits s.rated in
    over_of (c.args.count * s.mass) s.rest _ n.low (omega (arith, c.if-past-self.true, n.low))

pub returns-clause-whole : goal.returns-clause-whole
returns-clause-whole c =
    let s = c.args.self.now in
    let q : ℕ = c.args.count * s.rate / 79228162514264337593543950336 in
    let n = near c.args.count s.mass s.rest s.rate s.some c.ranges.count.fits s.rated in
    quotient_of (c.args.count * s.mass) s.rest (q + 1) (omega (arith, c.if-past-self.false, n.low, s.some)) (omega (arith, n.high))

pub returns-clause-over : goal.returns-clause-over
returns-clause-over c =
    let s = c.args.self.now in
    let q : ℕ = c.args.count * s.rate / 79228162514264337593543950336 in
    let n = near c.args.count s.mass s.rest s.rate s.some c.ranges.count.fits s.rated in
    omega (arith, over_of (c.args.count * s.mass) s.rest (q + 1) (omega (arith, c.if-past-self.false, n.low, s.some)) (omega (arith, n.high)))
