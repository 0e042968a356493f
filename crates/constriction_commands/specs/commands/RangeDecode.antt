-- The output of the command `range-decode` for an input text, and the condition for each fault.
use Rattle.std.specs.Prelude.{◌≡◌, ℕ, List, length}
use Rattle.constriction_base.specs.Models.{items_of}
use Rattle.constriction_queue.specs.Range.{Run, initial}
use Rattle.constriction_commands.specs.Lines.{line_of}
use Rattle.constriction_commands.specs.Inputs.{TextHasWords, NoWords}
use Rattle.constriction_commands.specs.Coding.{of_24_bits}
use Rattle.constriction_queue.specs.Symbols.{FindsAll}
use Rattle.constriction_commands.specs.Ranges.{ReadingFails}
use Rattle.constriction_commands.specs.declared.fault.Fault.{Fault}
use Rattle.constriction_commands.specs.declared.fault.Fault.TheVariants.{InvalidData}

-- The answer is a line of the symbols decoded from the words, followed by zero words.
pub record IsRangeDecoded (text answer : List ℕ) : Type 0 where
  pub table : List (ℕ × ℕ × ℕ)
  pub count : ℕ
  pub words : List ℕ
  pub symbols : List ℕ
  pub run : Run
  pub given : TextHasWords text table count words
  pub decoded : FindsAll 32 64 words (items_of (of_24_bits table) symbols) (initial 64) run
  pub counted : length symbols ≡ count
  pub printed : answer ≡ line_of symbols

-- The command fails: the text gives no table, count and words, or the words encode fewer symbols.
abbrev pub RangeDecodeFails : List ℕ → Fault → Type 0
RangeDecodeFails text (InvalidData error) =
    (table : List (ℕ × ℕ × ℕ)) × (count : ℕ) × (words : List ℕ) × TextHasWords text table count words × ReadingFails words table count (InvalidData error)
RangeDecodeFails text fault = NoWords text fault
