use Rattle.std.proofs.Common.{◌≤◌, reverse}
use Rattle.constriction_symbol.specs.Bits.{bits_of}
use Rattle.constriction_symbol.specs.Codewords.{Emits}
use Rattle.constriction_symbol.proofs.emitting.emit_down.Given as goal

-- what the calls still to come make of the bits that are left, all calls make of all bits
abbrev pub invariant-loop-left : goal.invariant-loop-left
invariant-loop-left g l = record {
  callable : goal.F-IsAlwaysCallable g l.emit;
  within : l.left ≤ g.Word.Natural.BITS;
  all : (r : _) (last : _) → Emits g.F.FnMut l.emit (reverse (bits_of l.left (g.Word.Natural.number l.word))) r last
      → Emits g.F.FnMut l.fn.emit (reverse (bits_of l.count (g.Word.Natural.number l.word))) r last;
}

abbrev pub decreases-loop-left : goal.decreases-loop-left
decreases-loop-left g l = l.left
