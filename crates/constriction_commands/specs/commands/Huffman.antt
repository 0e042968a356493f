-- The output of the command `huffman` for an input text, and the condition for each fault.
use Rattle.std.specs.Prelude.{◌≡◌, ℕ, ◌-◌, ◌/◌, ◌<◌, ◌≤◌, ◌^◌, Option, Some, None, Bool, List, [], ◌∷◌, ◌++◌, length, map, sum, ⊤}
use Rattle.std.specs.List.{join_with_byte}
use Rattle.constriction_symbol.specs.Huffman.{huffman, symbols_from}
use Rattle.constriction_commands.specs.Codewords.{digits}
use Rattle.constriction_commands.specs.Lines.{first_line, numbers_of}
use Rattle.constriction_commands.specs.Inputs.{IsBad}
use Rattle.constriction_commands.specs.declared.fault.Fault.{Fault}
use Rattle.constriction_commands.specs.declared.fault.Fault.TheVariants.{BadNumber, NoWeights, TooManySymbols, WeightOverflow, OutOfMemory}

-- The first line lists these 64-bit weights.
abbrev pub TreeWeightsAre : List ℕ → List ℕ → Type 0
TreeWeightsAre text weights = numbers_of (2 ^ 64 - 1) (first_line text) ≡ Some weights

-- The text of a codeword: its bits as digits, or a hyphen for the empty codeword.
abbrev pub codeword_text : Option (List Bool) → List ℕ
codeword_text None = []
codeword_text (Some []) = 45 ∷ []
codeword_text (Some (bit ∷ bits)) = digits (bit ∷ bits)

-- The line of the codewords of all symbols below `count`, separated by spaces, with a line feed at the end.
abbrev pub codewords_line : ℕ → (ℕ → Option (List Bool)) → List ℕ
codewords_line count codeword = join_with_byte 32 (map (λ symbol. codeword_text (codeword symbol)) (symbols_from 0 count)) ++ 10 ∷ []

-- The answer is the line of the codewords of the weights' Huffman tree.
pub record IsHuffmanLine (text answer : List ℕ) : Type 0 where
  pub weights : List ℕ
  pub weights_line : TreeWeightsAre text weights
  pub printed : answer ≡ codewords_line (length weights) (huffman weights)

-- The weights make no tree: there is no weight, there are too many weights, or their sum has more than 64 bits.
abbrev pub TreeFails : List ℕ → Fault → Type 0
TreeFails weights NoWeights = weights ≡ []
TreeFails weights TooManySymbols = (2 ^ 64 - 1) / 4 < length weights
TreeFails weights WeightOverflow = 2 ^ 64 ≤ sum weights
TreeFails weights OutOfMemory = ⊤
TreeFails weights fault = ⊥

-- The command fails: line 1 is no list of 64-bit numbers, or the weights make no tree.
-- `OutOfMemory` may come for any text.
abbrev pub HuffmanFails : List ℕ → Fault → Type 0
HuffmanFails text BadNumber = IsBad (numbers_of (2 ^ 64 - 1) (first_line text))
HuffmanFails text OutOfMemory = ⊤
HuffmanFails text fault = (weights : List ℕ) × TreeWeightsAre text weights × TreeFails weights fault
