use Rattle.std.proofs.Common.{arith, ◌^◌}
use Rattle.constriction_base.proofs.Heads.{popped_le}
use Rattle.constriction_stack.proofs.steps.pop_head.Goals as goal

pub shift_right-requires : goal.shift_right-requires
shift_right-requires g c = c.requires.within

pub times-requires : goal.times-requires
times-requires g c =
    let n = g.State.Natural.number in
    let le = popped_le (n c.args.head) (2 ^ c.args.precision) 0 (n c.args.p) (omega arith) (omega (arith, c.requires.total)) in
    rw c.shift_right.ensures (omega (arith, le, g.met.State.Natural.number_law c.args.head))

pub plus-requires : goal.plus-requires
plus-requires g c =
    let n = g.State.Natural.number in
    let le = popped_le (n c.args.head) (2 ^ c.args.precision) 0 (n c.args.p) (omega arith) (omega (arith, c.requires.total)) in
    rw (c.times.ensures, c.shift_right.ensures, c.requires.quantile) (omega (arith, le, g.met.State.Natural.number_law c.args.head))

pub minus-requires : goal.minus-requires
minus-requires g c = rw c.plus.ensures (omega (arith, c.requires.above))

pub returns : goal.returns
returns g c =
    let above = rw c.requires.quantile at c.requires.above in
    rw (c.minus.ensures, c.plus.ensures, c.times.ensures, c.shift_right.ensures, c.requires.quantile) (omega (arith, above))
