-- The output of the command `ans-decode` for an input text, and the condition for each fault.
use Rattle.std.specs.Prelude.{◌≡◌, ℕ, List, length, reverse}
use Rattle.constriction_base.specs.Models.{items_of}
use Rattle.constriction_base.specs.Readings.{BeginsHigh}
use Rattle.constriction_stack.specs.Ans.{AnsState, filled}
use Rattle.constriction_stack.specs.Symbols.{DecodesAll}
use Rattle.constriction_commands.specs.Lines.{line_of}
use Rattle.constriction_commands.specs.Inputs.{TextHasWords, NoWords}
use Rattle.constriction_commands.specs.Coding.{of_24_bits, EndsWithZero}
use Rattle.constriction_commands.specs.declared.fault.Fault.{Fault}
use Rattle.constriction_commands.specs.declared.fault.Fault.TheVariants.{ZeroWord}

-- The answer is a line of the symbols that a coder decodes after importing the words.
pub record IsAnsDecoded (text answer : List ℕ) : Type 0 where
  pub table : List (ℕ × ℕ × ℕ)
  pub count : ℕ
  pub words : List ℕ
  pub symbols : List ℕ
  pub state : AnsState
  pub given : TextHasWords text table count words
  pub high : BeginsHigh (reverse words)
  pub decoded : DecodesAll 32 64 (items_of (of_24_bits table) symbols) (filled 32 64 0 (reverse words)) state
  pub counted : length symbols ≡ count
  pub printed : answer ≡ line_of symbols

-- The command fails: the text gives no table, count and words, or the last word is 0.
abbrev pub AnsDecodeFails : List ℕ → Fault → Type 0
AnsDecodeFails text (ZeroWord error) = (table : List (ℕ × ℕ × ℕ)) × (count : ℕ) × (words : List ℕ) × TextHasWords text table count words × EndsWithZero words
AnsDecodeFails text fault = NoWords text fault
