-- The output of each command for an input text, and the condition for each fault.
use Rattle.std.specs.Prelude.{Option, ◌≡◌, ℕ, List, [], ◌∷◌, codes, drop, map, string_bytes, ◌⊎◌, IfSome}
use Rattle.std.specs.declared.string.String.{String}
use Rattle.constriction_commands.specs.Coding.{EncodeFails}
use Rattle.constriction_commands.specs.commands.AnsEncode.{IsAnsEncoded}
use Rattle.constriction_commands.specs.commands.AnsDecode.{IsAnsDecoded, AnsDecodeFails}
use Rattle.constriction_commands.specs.commands.RangeEncode.{IsRangeEncoded}
use Rattle.constriction_commands.specs.commands.RangeDecode.{IsRangeDecoded, RangeDecodeFails}
use Rattle.constriction_commands.specs.commands.ChainSplit.{IsChainSplit, ChainSplitFails}
use Rattle.constriction_commands.specs.commands.Golomb.{IsGolomb, GolombFails}
use Rattle.constriction_commands.specs.commands.Huffman.{IsHuffmanLine, HuffmanFails}
use Rattle.constriction_commands.specs.commands.Store.{IsStored, StoreFails}
use Rattle.constriction_commands.specs.declared.commands.Command.{Command}
use Rattle.constriction_commands.specs.declared.commands.Command.TheVariants.{AnsEncode, AnsDecode, RangeEncode, RangeDecode, ChainSplit, Golomb, Huffman, Store}
use Rattle.constriction_commands.specs.declared.fault.Fault.{Fault}
use Rattle.constriction_commands.specs.declared.fault.Fault.TheVariants.{Unreadable, Unwritable, OutOfMemory}

-- The argument that names a command.
abbrev pub name_of : Command → List ℕ
name_of AnsEncode = codes "ans-encode"
name_of AnsDecode = codes "ans-decode"
name_of RangeEncode = codes "range-encode"
name_of RangeDecode = codes "range-decode"
name_of ChainSplit = codes "chain-split"
name_of Golomb = codes "golomb"
name_of Huffman = codes "huffman"
name_of Store = codes "store"

-- The arguments are the name of the command alone.
abbrev pub Names : List (List ℕ) → Command → Type 0
Names arguments command = arguments ≡ name_of command ∷ []

-- The arguments name no command.
abbrev pub IsUnknownCommand : List (List ℕ) → Type 0
IsUnknownCommand arguments = (command : Command) → Names arguments command → ⊥

-- The arguments of a run: the words after the program's name, as bytes.
abbrev pub words_behind_name : {Z : Type 0} → List (String Z) → List (List ℕ)
words_behind_name words = map string_bytes (drop 1 words)

-- The command fails with this fault for the text. `OutOfMemory` may come for any text.
abbrev pub Fails : Command → List ℕ → Fault → Type 0
Fails AnsEncode text fault = EncodeFails text fault
Fails AnsDecode text fault = AnsDecodeFails text fault
Fails RangeEncode text fault = EncodeFails text fault
Fails RangeDecode text fault = RangeDecodeFails text fault
Fails ChainSplit text fault = ChainSplitFails text fault
Fails Golomb text fault = GolombFails text fault
Fails Huffman text fault = HuffmanFails text fault
Fails Store text fault = StoreFails text fault

-- A run stops with this fault: reading, writing or memory failed, or the named command fails for the text.
abbrev pub Stops : List (List ℕ) → Option (List ℕ) → Fault → Type 0
Stops arguments known fault = (fault ≡ Unreadable) ⊎ (fault ≡ Unwritable) ⊎ (fault ≡ OutOfMemory)
    ⊎ IfSome known (λ text. (command : Command) × Names arguments command × Fails command text fault)

-- The command answers the text with this output.
abbrev pub Answers : Command → List ℕ → List ℕ → Type 0
Answers AnsEncode text answer = IsAnsEncoded text answer
Answers AnsDecode text answer = IsAnsDecoded text answer
Answers RangeEncode text answer = IsRangeEncoded text answer
Answers RangeDecode text answer = IsRangeDecoded text answer
Answers ChainSplit text answer = IsChainSplit text answer
Answers Golomb text answer = IsGolomb text answer
Answers Huffman text answer = IsHuffmanLine text answer
Answers Store text answer = IsStored text answer

-- The command that the arguments name answers the text with this output.
abbrev pub IsAnswered : List (List ℕ) → List ℕ → List ℕ → Type 0
IsAnswered arguments text answer = (command : Command) × Names arguments command × Answers command text answer
