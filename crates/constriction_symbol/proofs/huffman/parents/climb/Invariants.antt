use Rattle.std.proofs.Common.{◌-◌, ◌<◌, length, reverse}
use Rattle.constriction_symbol.specs.Codewords.{Emits}
use Rattle.constriction_symbol.specs.Huffman.{climbed}
use Rattle.constriction_symbol.proofs.huffman.parents.climb.Given as goal

-- what the calls still to come make of the bits above, all calls make of all bits
abbrev pub invariant-loop-index : goal.invariant-loop-index
invariant-loop-index g l = record {
  callable : goal.F-IsAlwaysCallable g l.emit;
  within : l.index < length l.nodes;
  all : (r : _) (last : _) → Emits g.F.FnMut l.emit (reverse (climbed (length l.nodes) l.nodes l.index)) r last
      → Emits g.F.FnMut l.fn.emit (reverse (climbed (length l.nodes) l.nodes l.symbol)) r last;
}

abbrev pub decreases-loop-index : goal.decreases-loop-index
decreases-loop-index g l = length l.nodes - l.index
