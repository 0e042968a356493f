-- The output of the command `golomb` for an input text, and the condition for each fault.
use Rattle.std.specs.Prelude.{◌≡◌, ℕ, ◌-◌, ◌^◌, Some, List, [], ◌∷◌, ◌++◌, map, flat_map, ⊤}
use Rattle.std.specs.List.{join_with_byte}
use Rattle.constriction_base.specs.Steps.{AreWords}
use Rattle.constriction_symbol.specs.Bits.{IsQueueWords}
use Rattle.constriction_symbol.specs.Golomb.{golomb}
use Rattle.constriction_commands.specs.Codewords.{digits}
use Rattle.constriction_commands.specs.Lines.{first_line, numbers_of, line_of}
use Rattle.constriction_commands.specs.Inputs.{IsBad}
use Rattle.constriction_commands.specs.declared.fault.Fault.{Fault}
use Rattle.constriction_commands.specs.declared.fault.Fault.TheVariants.{BadNumber, OutOfMemory}

-- The line of the numbers' codewords as digits, separated by spaces, with a line feed at the end.
abbrev pub golomb_line : List ℕ → List ℕ
golomb_line numbers = join_with_byte 32 (map (λ n. digits (golomb n)) numbers) ++ 10 ∷ []

-- The answer is a line of the codewords, and a line of the words of a queue of bits that holds the codewords.
pub record IsGolomb (text answer : List ℕ) : Type 0 where
  pub numbers : List ℕ
  pub words : List ℕ
  pub numbers_line : numbers_of (2 ^ 32 - 1) (first_line text) ≡ Some numbers
  pub held : IsQueueWords 32 (flat_map golomb numbers) words
  pub fit : AreWords 32 words
  pub printed : answer ≡ golomb_line numbers ++ line_of words

-- The command fails: line 1 is no list of 32-bit numbers, or there is no memory.
abbrev pub GolombFails : List ℕ → Fault → Type 0
GolombFails text BadNumber = IsBad (numbers_of (2 ^ 32 - 1) (first_line text))
GolombFails text OutOfMemory = ⊤
GolombFails text fault = ⊥
