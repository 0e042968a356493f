use Rattle.std.proofs.Common.{reverse, length}
use Rattle.constriction_symbol.specs.Codewords.{Emits}
use Rattle.constriction_symbol.proofs.reversed.emit_taken.Given as goal

-- what the calls still to come make of the bits that are left, all calls make of all bits
abbrev pub invariant-loop-bit : goal.invariant-loop-bit
invariant-loop-bit g l = record {
  callable : goal.F-IsAlwaysCallable g l.emit;
  all : (r : _) (last : _) → Emits g.F.FnMut l.emit (reverse l.stack.bits) r last → Emits g.F.FnMut l.fn.emit (reverse l.fn.stack.bits) r last;
}

abbrev pub decreases-loop-bit : goal.decreases-loop-bit
decreases-loop-bit g l = length l.stack.bits
