use Rattle.std.proofs.Common.{arith}
use Rattle.constriction_base.proofs.weights.rows.symbol_from.Goals as goal

pub loop-symbol-init : goal.loop-symbol-init
loop-symbol-init g c = record { order = omega arith; within = c.requires.within; above = c.requires.above }

pub offset_bounds-starts-symbol : goal.offset_bounds-starts-symbol
offset_bounds-starts-symbol g c = omega (arith, c.loop-symbol-test.true)

pub bounds-starts-symbol : goal.bounds-starts-symbol
bounds-starts-symbol g c = omega (arith, c.loop-symbol-test.true)

pub loop-symbol-smaller : goal.loop-symbol-smaller
loop-symbol-smaller g c = omega (arith, c.loop-symbol-test.true)

pub returns-else-not-is_below-clause-order : goal.returns-else-not-is_below-clause-order
returns-else-not-is_below-clause-order g c = c.loop-symbol.invariant.order

pub returns-else-not-is_below-clause-within : goal.returns-else-not-is_below-clause-within
returns-else-not-is_below-clause-within g c = c.loop-symbol.invariant.within

pub returns-else-not-is_below-clause-above : goal.returns-else-not-is_below-clause-above
returns-else-not-is_below-clause-above g c = c.loop-symbol.invariant.above

pub returns-after-loop-symbol-clause-order : goal.returns-after-loop-symbol-clause-order
returns-after-loop-symbol-clause-order g c = c.loop-symbol.invariant.order

pub returns-after-loop-symbol-clause-within : goal.returns-after-loop-symbol-clause-within
returns-after-loop-symbol-clause-within g c = c.loop-symbol.invariant.within

pub returns-after-loop-symbol-clause-above : goal.returns-after-loop-symbol-clause-above
returns-after-loop-symbol-clause-above g c = c.loop-symbol.invariant.above

pub returns-after-loop-symbol-clause-below : goal.returns-after-loop-symbol-clause-below
returns-after-loop-symbol-clause-below g c = λ more. absurd (omega (arith, more, c.loop-symbol-test.false))
