-- Contracts of the calls with codebooks: what each call does with the caller's buffer, and when it returns each error.
use Rattle.std.specs.Prelude.{◌≡◌, ℕ, ◌<◌, ◌⊎◌, ◌-◌, ◌^◌, Bool, List, [], ◌∷◌, ◌++◌, length, map, reverse, Option, Some, Err, OnErr, OnOk, Result}
use Rattle.constriction_base.specs.declared.errors.CoderError.{CoderError}
use Rattle.constriction_base.specs.declared.errors.CoderError.TheVariants.{Frontend, Backend}
use Rattle.constriction_symbol.specs.declared.codebooks.SymbolCodeError.{SymbolCodeError}
use Rattle.constriction_symbol.specs.declared.codebooks.SymbolCodeError.TheVariants.{OutOfCompressedData, InvalidCodeword}
use Rattle.constriction_symbol.specs.Bits.{HasStackWords, IsQueueWords, IsStackWords, bits_of_words}
use Rattle.constriction_symbol.specs.Codewords.{NoCodewordBegins}
use Rattle.constriction_symbol.specs.Golomb.{IsInvalid, WantsBit, golomb}
use Rattle.constriction_symbol.specs.Huffman.{huffman}
use Rattle.constriction_symbol.specs.Merging.{FitTree}
use Rattle.constriction_symbol.specs.Lists.{AreCodewords}
use Rattle.constriction_inputs.specs.Buffers.{Appended, WordBuffer}
use Rattle.constriction_inputs.specs.Refusals.{Asks, Otherwise, OnlyNoMemory, NoMemoryOrSpace}
use Rattle.constriction_inputs.specs.declared.refusal.Refusal.{Refusal}
use Rattle.constriction_inputs.specs.declared.refusal.Refusal.TheVariants.{ImpossibleSymbol, InvalidData, NoMemory, OutOfData, WrongWeights}

-- ---- codewords
-- The caller's choice of codewords: Exp-Golomb for numbers, or the Huffman tree of weights.
-- The first argument of each choice is the width in bits of the numbers, or of the weights.
pub data SymbolCode : Type 0 where
  OfNumbers : ℕ → SymbolCode
  OfWeights : ℕ → List ℕ → SymbolCode

-- The codeword of a symbol, or none if the symbol has no codeword. `number` gives the number that stands for a symbol.
abbrev pub codeword_in : {S : Type 0} → (S → ℕ) → SymbolCode → S → Option (List Bool)
codeword_in number (OfNumbers width) = λ symbol. Some (golomb (number symbol))
codeword_in number (OfWeights width weights) = λ symbol. huffman weights (number symbol)

-- The weights make a Huffman tree: there are 1 to `most` weights, and their sum fits in `width` bits.
abbrev pub MakesCode : ℕ → SymbolCode → Type 0
MakesCode most (OfNumbers width) = Unit {0}
MakesCode most (OfWeights width weights) = FitTree (λ weight. weight) width most weights

-- The bits end before a codeword is complete, so a decoder needs further bits.
abbrev pub IsCutOff : SymbolCode → List Bool → Type 0
IsCutOff (OfNumbers width) bits = WantsBit width bits
IsCutOff (OfWeights width weights) bits = NoCodewordBegins (huffman weights) bits

-- A decoder stops after these bits, because no codeword begins with them. A Huffman tree has no such bits.
abbrev pub IsWrong : SymbolCode → List Bool → Type 0
IsWrong (OfNumbers width) bits = IsInvalid width bits
IsWrong (OfWeights width weights) bits = ⊥

-- Each symbol has a codeword.
abbrev pub AllHaveCodewords : {S : Type 0} → (S → Option (List Bool)) → List S → Type 0
AllHaveCodewords codeword symbols = (code : List Bool) × AreCodewords codeword symbols code

-- The error states why the symbols aren't encoded: the weights make no Huffman tree, a symbol has no codeword, or there
-- is no memory.
abbrev pub SymbolEncodeFails : {S : Type 0} → (S → ℕ) → SymbolCode → List S → Refusal → Type 0
SymbolEncodeFails symbol book symbols e =
    Asks {T = Unit {0}} WrongWeights (MakesCode (2 ^ 62 - 1) book) (Asks ImpossibleSymbol (AllHaveCodewords (codeword_in symbol book) symbols) (Otherwise OnlyNoMemory)) (Err e)

-- ---- bits as words
-- The order in which bits are read: the order of writing (`AsQueue`), or the reverse order (`AsStack`).
pub data Order : Type 0 where
  AsQueue : Order
  AsStack : Order

-- The words hold exactly `bits`, listed in the order of reading.
abbrev pub AreWordsInOrder : Order → ℕ → List Bool → List ℕ → Type 0
AreWordsInOrder AsQueue w bits words = IsQueueWords w bits words
AreWordsInOrder AsStack w bits words = IsStackWords w (reverse bits) words

-- Reading the words gives these bits. The bits of a queue include the zeros that fill its last word.
abbrev pub HoldBits : Order → ℕ → List ℕ → List Bool → Type 0
HoldBits AsQueue w words bits = bits ≡ bits_of_words w words
HoldBits AsStack w words bits = HasStackWords w (reverse bits) words

-- The words hold no list of bits: their last word is 0, which never ends a stack of bits. A queue can have any words.
abbrev pub HoldNoBits : Order → List ℕ → Type 0
HoldNoBits AsQueue words = ⊥
HoldNoBits AsStack words = (front : List ℕ) × (words ≡ front ++ 0 ∷ [])

-- ---- symbols as words
-- The words hold exactly the symbols' codewords, concatenated.
abbrev pub AreSymbolWords : {S : Type 0} → Order → ℕ → (S → Option (List Bool)) → List S → List ℕ → Type 0
AreSymbolWords order w codeword symbols words = (code : List Bool) × AreCodewords codeword symbols code × AreWordsInOrder order w code words

-- The symbols' codewords take `needed` words, but the buffer holds only `room` words, which is fewer.
abbrev pub TooShortForCodewords : {S : Type 0} → Order → ℕ → (S → Option (List Bool)) → List S → ℕ → ℕ → Type 0
TooShortForCodewords order w codeword symbols room needed = (words : List ℕ) × AreSymbolWords order w codeword symbols words × (needed ≡ length words) × (room < needed)

-- Makes one value of a buffer and the number of words in use.
abbrev pub words_in : {Word : Type 0} → List Word → ℕ → WordBuffer Word
words_in words len = record { words = words; len = len }

-- The contract of an encode call, which writes the words of the symbols at the beginning of a buffer.
pub record EncodesCodewords {S Word : Type 0} (symbol : S → ℕ) (number : Word → ℕ) (w : ℕ) (order : Order) (book : SymbolCode) (symbols : List S)
    (old new : WordBuffer Word) (answer : Result (Unit {0}) Refusal) : Type 0 where
  pub put : OnOk answer ((all : List Word) × AreSymbolWords order w (codeword_in symbol book) symbols (map number all) × Appended old.words 0 all new.words new.len)
  pub asked : Asks WrongWeights (MakesCode (2 ^ 62 - 1) book) (Asks ImpossibleSymbol (AllHaveCodewords (codeword_in symbol book) symbols)
      (Otherwise (NoMemoryOrSpace (TooShortForCodewords order w (codeword_in symbol book) symbols (length old.words))))) answer
  pub kept : OnErr answer (new ≡ old)

-- ---- words as symbols
-- The bits begin with the symbols' codewords, concatenated.
abbrev pub BeginBits : {S : Type 0} → (S → Option (List Bool)) → List S → List Bool → Type 0
BeginBits codeword symbols bits = (code : List Bool) × (rest : List Bool) × AreCodewords codeword symbols code × (bits ≡ code ++ rest)

-- The bits `old` are the symbols' codewords, concatenated, and then the bits `new`.
abbrev pub BeginWithCodewords : {S : Type 0} → (S → Option (List Bool)) → List S → List Bool → List Bool → Type 0
BeginWithCodewords codeword symbols old new = (code : List Bool) × AreCodewords codeword symbols code × (old ≡ code ++ new)

-- The bits begin with the codewords of fewer than `amt` symbols, and the bits after these have the property `holds`.
abbrev pub AfterFewer : {S : Type 0} → (S → Option (List Bool)) → ℕ → (List Bool → Type 0) → List Bool → Type 0
AfterFewer {S} codeword amt holds bits =
    (symbols : List S) × (length symbols < amt) × (code : List Bool) × (rest : List Bool) × AreCodewords codeword symbols code × (bits ≡ code ++ rest) × holds rest

-- The first bits of the list, up to some bit, have the property `holds`.
abbrev pub BegunBy : (List Bool → Type 0) → List Bool → Type 0
BegunBy holds bits = (first : List Bool) × (rest : List Bool) × (bits ≡ first ++ rest) × holds first

-- The error states why the bits don't give `amt` symbols. After fewer symbols, the bits end within a codeword
-- (`OutOfData`) or begin with no codeword (`InvalidData`). Or there is no memory (`NoMemory`).
abbrev pub SymbolReadFails : {S : Type 0} → (S → Option (List Bool)) → (List Bool → Type 0) → (List Bool → Type 0) → ℕ → List Bool → Refusal → Type 0
SymbolReadFails codeword is_cut is_wrong amt bits OutOfData = AfterFewer codeword amt is_cut bits
SymbolReadFails codeword is_cut is_wrong amt bits InvalidData = AfterFewer codeword amt (BegunBy is_wrong) bits
SymbolReadFails codeword is_cut is_wrong amt bits other = OnlyNoMemory other

-- The error that a call returns for a coder's error: `OutOfData` if bits are missing, `InvalidData` for an invalid
-- codeword, and `NoMemory` for an error of the backend.
abbrev pub MapsError : {V E : Type 0} → CoderError (SymbolCodeError V) E → Refusal → Type 0
MapsError (Frontend OutOfCompressedData) refusal = refusal ≡ OutOfData
MapsError (Frontend (InvalidCodeword e)) refusal = refusal ≡ InvalidData
MapsError (Backend e) refusal = refusal ≡ NoMemory

-- The error states why the words don't give `amt` symbols: there is no memory, the words hold no list of bits, or their
-- bits don't give the symbols.
abbrev pub SymbolDecodeFails : {S : Type 0} → Order → ℕ → (S → ℕ) → SymbolCode → ℕ → List ℕ → Refusal → Type 0
SymbolDecodeFails order w symbol book amt words e =
    OnlyNoMemory e
    ⊎ ((e ≡ InvalidData) × HoldNoBits order words)
    ⊎ ((bits : List Bool) × HoldBits order w words bits × SymbolReadFails (codeword_in symbol book) (IsCutOff book) (IsWrong book) amt bits e)

-- The contract of a decode call, which fills a list with the first symbols that the words encode.
pub record DecodesCodewords {S : Type 0} (symbol : S → ℕ) (w : ℕ) (order : Order) (book : SymbolCode) (words : List ℕ) (old new : List S) (answer : Result (Unit {0}) Refusal) : Type 0 where
  pub count : length new ≡ length old
  pub taken : OnOk answer ((bits : List Bool) × HoldBits order w words bits × BeginBits (codeword_in symbol book) new bits)
  pub asked : Asks WrongWeights (MakesCode (2 ^ 63 - 1) book) (Otherwise (SymbolDecodeFails order w symbol book (length old) words)) answer
  pub kept : OnErr answer (new ≡ old)
