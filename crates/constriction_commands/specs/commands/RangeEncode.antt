-- The output of the command `range-encode` for an input text.
use Rattle.std.specs.Prelude.{◌≡◌, ℕ, List}
use Rattle.constriction_base.specs.Models.{items_of}
use Rattle.constriction_queue.specs.Range.{Run, initial, sealed}
use Rattle.constriction_commands.specs.Lines.{line_of}
use Rattle.constriction_commands.specs.Inputs.{TextHasSymbols}
use Rattle.constriction_commands.specs.Coding.{of_24_bits}
use Rattle.constriction_queue.specs.Symbols.{NarrowsAll}

-- The answer is a line of the sealed words of a new encoder after it encodes the symbols.
pub record IsRangeEncoded (text answer : List ℕ) : Type 0 where
  pub table : List (ℕ × ℕ × ℕ)
  pub symbols : List ℕ
  pub run : Run
  pub given : TextHasSymbols text table symbols
  pub encoded : NarrowsAll 32 64 (items_of (of_24_bits table) symbols) (initial 64) run
  pub printed : answer ≡ line_of (sealed 32 64 run)
