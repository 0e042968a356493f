-- The output of the program: the first bytes of a command's output, or all of them, and the lines on standard error.
use Rattle.std.specs.Prelude.{Option, ◌≡◌, ℕ, List, [], ◌∷◌, ◌++◌, take, codes}
use Rattle.std.specs.Io.KnownBytes.{Appends}
use Rattle.constriction_commands.specs.declared.fault.Fault.{Fault}
use Rattle.constriction_commands.specs.declared.fault.Fault.TheVariants.{Unreadable, Unwritable, BadNumber, NoCount, NoWeights, WrongTotal, TooManySymbols, WeightOverflow, Encoder, ZeroWord, NoChain, OutOfData, InvalidData, NoSuchChunk, OutOfMemory}

-- The writer's contents grow by a beginning of these bytes.
abbrev pub GrowsByBeginning : Option (List ℕ) → Option (List ℕ) → List ℕ → Type 0
GrowsByBeginning old new bytes = (count : ℕ) × Appends old new (take count bytes)

-- A text and a line feed.
abbrev pub as_line : List ℕ → List ℕ
as_line text = text ++ 10 ∷ []

-- The usage line, for arguments that aren't one known command.
abbrev pub usage_line : List ℕ
usage_line = as_line (codes "usage: constriction <ans-encode|ans-decode|range-encode|range-decode|chain-split|golomb|huffman|store>")

-- The line on standard error for a fault.
abbrev pub fault_line : Fault → List ℕ
fault_line Unreadable = as_line (codes "cannot read input")
fault_line Unwritable = as_line (codes "cannot write output")
fault_line BadNumber = as_line (codes "bad number")
fault_line NoCount = as_line (codes "no count")
fault_line NoWeights = as_line (codes "no weights")
fault_line WrongTotal = as_line (codes "weights do not sum to 16777216")
fault_line TooManySymbols = as_line (codes "too many symbols")
fault_line WeightOverflow = as_line (codes "sum of weights too large")
fault_line (Encoder error) = as_line (codes "Impossible symbol.")
fault_line (ZeroWord error) = as_line (codes "Tried to decode from compressed data that ends with a zero word, which is invalid for an ANS coder.")
fault_line (InvalidData error) = as_line (codes "Tried to decode from compressed data that is invalid for the employed entropy model.")
fault_line NoChain = as_line (codes "not enough words, or a zero word at the end")
fault_line (OutOfData error) = as_line (codes "Out of compressed data.")
fault_line NoSuchChunk = as_line (codes "no such chunk")
fault_line OutOfMemory = as_line (codes "out of memory")

-- The writer's contents grow by a beginning of this line.
abbrev pub BeginsLine : {D : Type 0} → (D → Option (List ℕ)) → D → D → List ℕ → Type 0
BeginsLine contents old new line = GrowsByBeginning (contents old) (contents new) line

-- `stops` holds for a fault, and the writer's contents grow by a beginning of the fault's line.
abbrev pub BeginsFault : {D : Type 0} → (Fault → Type 0) → (D → Option (List ℕ)) → D → D → Type 0
BeginsFault stops contents old new = (fault : Fault) × stops fault × BeginsLine contents old new (fault_line fault)

-- The status is 1, and the writer's contents grow by a beginning of the fault's line.
abbrev pub Reports : {D : Type 0} → Fault → ℕ → (D → Option (List ℕ)) → D → D → Type 0
Reports fault status contents old new = (status ≡ 1) × BeginsLine contents old new (fault_line fault)
