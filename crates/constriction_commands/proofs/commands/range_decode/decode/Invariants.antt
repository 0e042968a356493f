use Rattle.std.proofs.Common.{◌≡◌, length}
use Rattle.constriction_base.specs.Models.{items_of}
use Rattle.constriction_queue.specs.Range.{Run, initial, IsAt}
use Rattle.constriction_commands.specs.Coding.{of_24_bits}
use Rattle.constriction_queue.specs.Symbols.{FindsAll}
use Rattle.constriction_commands.proofs.commands.range_decode.decode.Given as goal

-- the symbols so far are read, and the decoder is at the moment behind them
abbrev pub invariant-loop : goal.invariant-loop
invariant-loop g l = record {
  counted : length l.symbols.items ≡ l.counter;
  read : (run : Run) × IsAt 32 64 l.words run l.coder.lower l.coder.range l.coder.point l.coder.words
      × FindsAll 32 64 l.words (items_of (of_24_bits (g.M.EntropyModel.table l.model)) l.symbols.items) (initial 64) run;
}
