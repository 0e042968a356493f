-- The inputs that commands parse from the lines of a text, and the fault for each kind of bad line.
use Rattle.std.specs.Prelude.{Option, None, ◌≡◌, ℕ, ◌-◌, ◌≤◌, ◌^◌, Some, List, [], ◌∷◌, sum, ◌≢◌, ◌⊎◌, ◌<◌, ⊤}
use Rattle.constriction_base.specs.Tables.{table_of}
use Rattle.constriction_commands.specs.Lines.{first_line, second_line, after_line, numbers_of, number_lists_of}
use Rattle.constriction_commands.specs.declared.fault.Fault.{Fault}
use Rattle.constriction_commands.specs.declared.fault.Fault.TheVariants.{BadNumber, NoCount, NoWeights, WrongTotal, OutOfMemory}

-- The first line lists these 32-bit weights.
abbrev pub WeightsAre : List ℕ → List ℕ → Type 0
WeightsAre text weights = numbers_of (2 ^ 32 - 1) (first_line text) ≡ Some weights

-- The second line lists these 64-bit symbols.
abbrev pub SymbolsAre : List ℕ → List ℕ → Type 0
SymbolsAre text symbols = numbers_of (2 ^ 64 - 1) (second_line text) ≡ Some symbols

-- The second line lists these 32-bit numbers: a count, and words.
abbrev pub CountedAre : List ℕ → List ℕ → Type 0
CountedAre text numbers = numbers_of (2 ^ 32 - 1) (second_line text) ≡ Some numbers

-- The weights make a table: they add up to 2 ^ 24.
abbrev pub Total : List ℕ → Type 0
Total weights = sum weights ≡ 2 ^ 24

-- Parsing a line gives `None`, because the line is no list of numbers.
abbrev pub IsBad : Option (List ℕ) → Type 0
IsBad numbers = numbers ≡ None

-- ---- weights and symbols

-- The text gives the weights of this table, and these symbols.
pub record TextHasSymbols (text : List ℕ) (table : List (ℕ × ℕ × ℕ)) (symbols : List ℕ) : Type 0 where
  pub weights : List ℕ
  pub weights_line : WeightsAre text weights
  pub symbols_line : SymbolsAre text symbols
  pub total : Total weights
  pub table_is : table ≡ table_of weights

-- The text gives no symbols: a line is bad, or the weights make no table.
abbrev pub NoSymbols : List ℕ → Fault → Type 0
NoSymbols text BadNumber = IsBad (numbers_of (2 ^ 32 - 1) (first_line text)) ⊎ IsBad (numbers_of (2 ^ 64 - 1) (second_line text))
NoSymbols text NoWeights = (symbols : List ℕ) × WeightsAre text [] × SymbolsAre text symbols
NoSymbols text WrongTotal = (weights symbols : List ℕ) × WeightsAre text weights × SymbolsAre text symbols × (weights ≢ []) × (sum weights ≢ 2 ^ 24)
NoSymbols text OutOfMemory = ⊤
NoSymbols text fault = ⊥

-- ---- weights, a count and words

-- The greatest count of symbols.
abbrev pub most : ℕ
most = 16777216

-- The text gives the weights of this table, a count of symbols, and these words.
pub record TextHasWords (text : List ℕ) (table : List (ℕ × ℕ × ℕ)) (count : ℕ) (words : List ℕ) : Type 0 where
  pub weights : List ℕ
  pub weights_line : WeightsAre text weights
  pub words_line : CountedAre text (count ∷ words)
  pub few : count ≤ most
  pub total : Total weights
  pub table_is : table ≡ table_of weights

-- The text gives no words: a line is bad, the count is too great or missing, or the weights make no table.
abbrev pub NoWords : List ℕ → Fault → Type 0
NoWords text BadNumber =
    IsBad (numbers_of (2 ^ 32 - 1) (first_line text)) ⊎ IsBad (numbers_of (2 ^ 32 - 1) (second_line text))
    ⊎ ((count : ℕ) × (words : List ℕ) × CountedAre text (count ∷ words) × (most < count))
NoWords text NoCount = (weights : List ℕ) × WeightsAre text weights × CountedAre text []
NoWords text NoWeights = (count : ℕ) × (words : List ℕ) × WeightsAre text [] × CountedAre text (count ∷ words) × (count ≤ most)
NoWords text WrongTotal =
    (weights : List ℕ) × (count : ℕ) × (words : List ℕ) × WeightsAre text weights × CountedAre text (count ∷ words) × (count ≤ most) × (weights ≢ []) × (sum weights ≢ 2 ^ 24)
NoWords text OutOfMemory = ⊤
NoWords text fault = ⊥

-- ---- weights, look-ups and chunks

-- Each line after the second one lists a chunk of 64-bit symbols, and these are the chunks.
abbrev pub ChunksAre : List ℕ → List (List ℕ) → Type 0
ChunksAre text chunks = number_lists_of (2 ^ 64 - 1) (after_line (after_line text)) ≡ Some chunks

-- The text gives the weights of this table, the indices of the chunks to look up, and these chunks.
pub record TextHasChunks (text : List ℕ) (table : List (ℕ × ℕ × ℕ)) (places : List ℕ) (chunks : List (List ℕ)) : Type 0 where
  pub first_two : TextHasSymbols text table places
  pub chunk_lines : ChunksAre text chunks

-- The text gives no chunks: a line is bad, or the weights make no table.
abbrev pub NoChunks : List ℕ → Fault → Type 0
NoChunks text BadNumber = NoSymbols text BadNumber ⊎ (number_lists_of (2 ^ 64 - 1) (after_line (after_line text)) ≡ None)
NoChunks text OutOfMemory = ⊤
NoChunks text fault = NoSymbols text fault × ((chunks : List (List ℕ)) × ChunksAre text chunks)
