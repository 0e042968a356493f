use Rattle.std.proofs.Common.{◌≡◌, length}
use Rattle.constriction_base.specs.Models.{items_of}
use Rattle.constriction_stack.specs.Symbols.{DecodesAll}
use Rattle.constriction_commands.specs.Coding.{of_24_bits}
use Rattle.constriction_commands.proofs.commands.ans_decode.decode.Given as goal

-- the symbols so far are decoded
abbrev pub invariant-loop : goal.invariant-loop
invariant-loop g l = record {
  counted : length l.symbols.items ≡ l.counter;
  decoded : DecodesAll 32 64 (items_of (of_24_bits (g.M.EntropyModel.table l.model)) l.symbols.items) l.fn.coder.state l.coder.state;
}
