-- The output of the command `ans-encode` for an input text.
use Rattle.std.specs.Prelude.{◌≡◌, ℕ, List, reverse}
use Rattle.constriction_base.specs.Models.{items_of}
use Rattle.constriction_stack.specs.Ans.{AnsState, empty, exported}
use Rattle.constriction_stack.specs.Symbols.{EncodesAll}
use Rattle.constriction_commands.specs.Lines.{line_of}
use Rattle.constriction_commands.specs.Inputs.{TextHasSymbols}
use Rattle.constriction_commands.specs.Coding.{of_24_bits}

-- The answer is a line of the words that a new coder exports after it encodes the symbols, with the top word last.
pub record IsAnsEncoded (text answer : List ℕ) : Type 0 where
  pub table : List (ℕ × ℕ × ℕ)
  pub symbols : List ℕ
  pub words : List ℕ
  pub state : AnsState
  pub given : TextHasSymbols text table symbols
  pub encoded : EncodesAll 32 64 (items_of (of_24_bits table) (reverse symbols)) empty state
  pub words_of_state : reverse words ≡ exported 32 state
  pub printed : answer ≡ line_of words
