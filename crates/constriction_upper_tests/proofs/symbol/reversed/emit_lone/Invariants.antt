use Rattle.std.proofs.Common.{◌-◌}
use Rattle.constriction_symbol.specs.Codewords.{Emits}
use Rattle.constriction_upper_tests.specs.Lone.{lone_suffix}
use Rattle.constriction_upper_tests.proofs.symbol.reversed.emit_lone.Given as goal

-- what the calls still to come make of the bits that are left, all calls make of all bits
abbrev pub invariant-loop-index : goal.invariant-loop-index
invariant-loop-index g l = record {
  callable : goal.F-IsAlwaysCallable g l.emit;
  all : (r : _) (last : _) → Emits g.F.FnMut l.emit (lone_suffix (l.zeros - l._index)) r last → Emits g.F.FnMut l.fn.emit (lone_suffix l.zeros) r last;
}
