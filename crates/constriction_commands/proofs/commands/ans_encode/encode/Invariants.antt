use Rattle.std.proofs.Common.{◌≤◌, length, drop, reverse}
use Rattle.constriction_base.specs.Models.{items_of}
use Rattle.constriction_stack.specs.Ans.{IsNormalized, empty}
use Rattle.constriction_stack.specs.Symbols.{EncodesAll}
use Rattle.constriction_commands.specs.Coding.{of_24_bits}
use Rattle.constriction_commands.proofs.commands.ans_encode.encode.Given as goal

-- the symbols from the place on are encoded, the last one first
abbrev pub invariant-loop-left : goal.invariant-loop-left
invariant-loop-left g l = record {
  within : l.left ≤ length l.symbols;
  valid : IsNormalized 32 64 l.coder.state;
  encoded : EncodesAll 32 64 (items_of (of_24_bits (g.M.EntropyModel.table l.model)) (reverse (drop l.left l.symbols))) empty l.coder.state;
}

abbrev pub decreases-loop-left : goal.decreases-loop-left
decreases-loop-left g l = l.left
