-- Failed decodes with a range coder of 32-bit words and 64-bit states.
use Rattle.std.specs.Prelude.{ℕ, ◌/◌, ◌≤◌, ◌<◌, ◌^◌, List, length, ⊤}
use Rattle.constriction_base.specs.Models.{items_of}
use Rattle.constriction_queue.specs.Range.{Run, initial, offset}
use Rattle.constriction_queue.specs.Symbols.{FindsAll}
use Rattle.constriction_commands.specs.Coding.{of_24_bits}
use Rattle.constriction_commands.specs.declared.fault.Fault.{Fault}
use Rattle.constriction_commands.specs.declared.fault.Fault.TheVariants.{InvalidData, OutOfMemory}

-- The words encode no symbol after this run, because the quantile read is at least 2 ^ 24.
abbrev pub HoldsNoQuantile : List ℕ → Run → Type 0
HoldsNoQuantile words run = 2 ^ 24 ≤ offset 32 64 words run / (run.range / 2 ^ 24)

-- Decoding `count` symbols fails: after fewer symbols, the words encode no further symbol.
abbrev pub ReadingFails : List ℕ → List (ℕ × ℕ × ℕ) → ℕ → Fault → Type 0
ReadingFails words table count (InvalidData error) =
    (symbols : List ℕ) × (run : Run) × FindsAll 32 64 words (items_of (of_24_bits table) symbols) (initial 64) run × (length symbols < count) × HoldsNoQuantile words run
ReadingFails words table count OutOfMemory = ⊤
ReadingFails words table count fault = ⊥
