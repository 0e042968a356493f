use Rattle.std.proofs.Common.{◌≡◌, ◌-◌, ◌^◌, arith}
use Rattle.std.proofs.lemmas.Nat.{pow_below}
use Rattle.constriction_base.proofs.Heads.{room_for_interval}
use Rattle.constriction_stack.proofs.ByProduct.{by_product}
use Rattle.constriction_stack.proofs.steps.push_head.Goals as goal

-- ---- by a reciprocal
pub shift_left-requires-clause-fits : goal.shift_left-requires-clause-fits
shift_left-requires-clause-fits g c = rw c.unit.ensures (omega (arith, pow_below c.args.precision g.State.Natural.BITS c.requires.within))

pub times-requires : goal.times-requires
times-requires g c =
    let n = g.State.Natural.number in
    let fits = room_for_interval g.State.Natural.BITS c.args.precision (n c.args.head) (n c.args.p) (n c.args.left) (omega arith) c.requires.some c.requires.total c.requires.room in
    let same = by_product (n c.args.head) (n c.args.p) (2 ^ c.args.precision) (n c.args.left) (omega (arith, c.requires.total)) in
    let table = rw c.unit.ensures at c.shift_left.ensures in
    let beside : n c.minus-beside.result ≡ 2 ^ c.args.precision - n c.args.p = omega (arith, c.minus-beside.ensures, table) in
    rw (c.quotient_by-quotient.ensures, beside) (omega (arith, fits, same))

pub plus-requires : goal.plus-requires
plus-requires g c =
    let n = g.State.Natural.number in
    let fits = room_for_interval g.State.Natural.BITS c.args.precision (n c.args.head) (n c.args.p) (n c.args.left) (omega arith) c.requires.some c.requires.total c.requires.room in
    let same = by_product (n c.args.head) (n c.args.p) (2 ^ c.args.precision) (n c.args.left) (omega (arith, c.requires.total)) in
    omega (arith, fits, same)

pub plus-requires-in-Some : goal.plus-requires-in-Some
plus-requires-in-Some g c =
    let n = g.State.Natural.number in
    let fits = room_for_interval g.State.Natural.BITS c.args.precision (n c.args.head) (n c.args.p) (n c.args.left) (omega arith) c.requires.some c.requires.total c.requires.room in
    let same = by_product (n c.args.head) (n c.args.p) (2 ^ c.args.precision) (n c.args.left) (omega (arith, c.requires.total)) in
    let table = rw c.unit.ensures at c.shift_left.ensures in
    let beside : n c.minus-beside.result ≡ 2 ^ c.args.precision - n c.args.p = omega (arith, c.minus-beside.ensures, table) in
    rw (c.times.ensures, c.quotient_by-quotient.ensures, beside, c.plus.ensures) (omega (arith, fits, same))

pub returns-in-Some : goal.returns-in-Some
returns-in-Some g c =
    let n = g.State.Natural.number in
    let same = by_product (n c.args.head) (n c.args.p) (2 ^ c.args.precision) (n c.args.left) (omega (arith, c.requires.total)) in
    let table = rw c.unit.ensures at c.shift_left.ensures in
    let beside : n c.minus-beside.result ≡ 2 ^ c.args.precision - n c.args.p = omega (arith, c.minus-beside.ensures, table) in
    rw (c.plus-in-Some.ensures, c.times.ensures, c.quotient_by-quotient.ensures, beside, c.plus.ensures) same

-- ---- by a division
pub shift_left-prefix-requires-clause-fits : goal.shift_left-prefix-requires-clause-fits
shift_left-prefix-requires-clause-fits g c =
    let fits = room_for_interval g.State.Natural.BITS c.args.precision (g.State.Natural.number c.args.head) (g.State.Natural.number c.args.p) (g.State.Natural.number c.args.left) (omega arith) c.requires.some c.requires.total c.requires.room in
    rw c.div_rem-quotient.ensures.quotient (omega arith)

pub plus-requires-in-None : goal.plus-requires-in-None
plus-requires-in-None g c =
    let fits = room_for_interval g.State.Natural.BITS c.args.precision (g.State.Natural.number c.args.head) (g.State.Natural.number c.args.p) (g.State.Natural.number c.args.left) (omega arith) c.requires.some c.requires.total c.requires.room in
    rw c.div_rem-quotient.ensures.rest (omega arith)

pub plus-requires-in-None-2 : goal.plus-requires-in-None-2
plus-requires-in-None-2 g c =
    let fits = room_for_interval g.State.Natural.BITS c.args.precision (g.State.Natural.number c.args.head) (g.State.Natural.number c.args.p) (g.State.Natural.number c.args.left) (omega arith) c.requires.some c.requires.total c.requires.room in
    rw (c.shift_left-prefix.ensures, c.div_rem-quotient.ensures.quotient, c.plus-in-None.ensures, c.div_rem-quotient.ensures.rest) (omega arith)
