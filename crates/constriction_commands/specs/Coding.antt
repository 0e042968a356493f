-- The models of the program's coders, and the condition under which encoding the symbols of a text fails.
use Rattle.std.specs.Prelude.{◌≡◌, ℕ, List, [], ◌∷◌, ◌++◌, ⊤}
use Rattle.std.specs.List.{Any}
use Rattle.constriction_base.specs.Models.{Model}
use Rattle.constriction_base.specs.Tables.{Impossible}
use Rattle.constriction_commands.specs.Inputs.{TextHasSymbols, NoSymbols}
use Rattle.constriction_commands.specs.declared.fault.Fault.{Fault}
use Rattle.constriction_commands.specs.declared.fault.Fault.TheVariants.{Encoder, OutOfMemory}

-- A table at a precision of 24 bits, as a model.
abbrev pub of_24_bits : List (ℕ × ℕ × ℕ) → Model ℕ
of_24_bits table = record { precision = 24; table = table }

-- There are words, and the last word is 0.
abbrev pub EndsWithZero : List ℕ → Type 0
EndsWithZero words = (front : List ℕ) × (words ≡ front ++ 0 ∷ [])

-- A coder fails to encode symbols: one of them is impossible, or there is no memory.
abbrev pub CoderFails : List (ℕ × ℕ × ℕ) → List ℕ → Fault → Type 0
CoderFails table symbols (Encoder error) = Any (Impossible table) symbols
CoderFails table symbols OutOfMemory = ⊤
CoderFails table symbols fault = ⊥

-- Encoding the symbols of a text fails: the text gives no table and symbols, or a symbol is impossible.
abbrev pub EncodeFails : List ℕ → Fault → Type 0
EncodeFails text (Encoder error) = (table : List (ℕ × ℕ × ℕ)) × (symbols : List ℕ) × TextHasSymbols text table symbols × Any (Impossible table) symbols
EncodeFails text fault = NoSymbols text fault
