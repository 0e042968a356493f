use Rattle.std.proofs.Common.{◌+◌, ◌≤◌, length, take}
use Rattle.constriction_base.specs.Models.{items_of}
use Rattle.constriction_queue.specs.Encoder.{left_to_encode, run_by}
use Rattle.constriction_queue.specs.Range.{initial}
use Rattle.constriction_commands.specs.Coding.{of_24_bits}
use Rattle.constriction_queue.specs.Symbols.{NarrowsAll}
use Rattle.constriction_commands.proofs.commands.range_encode.encode.Given as goal

-- the symbols before the place are encoded, and the coder takes the others
abbrev pub invariant-loop-symbol : goal.invariant-loop-symbol
invariant-loop-symbol g l = record {
  room : length l.symbols ≤ left_to_encode l.coder + l.symbol-index;
  narrowed : NarrowsAll 32 64 (items_of (of_24_bits (g.M.EntropyModel.table l.model)) (take l.symbol-index l.symbols)) (initial 64) (run_by 32 64 l.coder);
}
