-- Contracts of the calls that encode and decode symbols as codewords, from a given bit of a buffer on. A call that
-- succeeds sets the caller's `bit` to the index of the bit after the last codeword. Bits and words are numbered from 0,
-- and bit 0 of a word is its lowest bit. Bit i of the words is bit i % w of word i / w.
use Rattle.std.specs.Prelude.{◌≡◌, ℕ, ◌+◌, ◌-◌, ◌*◌, ◌/◌, ◌^◌, ◌<◌, ◌≤◌, Bool, List, ◌++◌, length, map, take, drop, Option, OnErr, OnOk, Result}
use Rattle.constriction_symbol.specs.Bits.{IsQueueWords, bits_of_words}
use Rattle.constriction_symbol.specs.Lists.{AreCodewords}
use Rattle.constriction_inputs.specs.Buffers.{Appended}
use Rattle.constriction_inputs.specs.Refusals.{Asks, Otherwise, NoMemoryOrSpace}
use Rattle.constriction_inputs.specs.declared.refusal.Refusal.{Refusal}
use Rattle.constriction_inputs.specs.declared.refusal.Refusal.TheVariants.{ImpossibleSymbol, WrongLength, WrongWeights}
use Rattle.constriction_calls.specs.SymbolCalls.{AllHaveCodewords, IsCutOff, IsWrong, MakesCode, SymbolReadFails, SymbolCode, codeword_in}

-- `count` words have at least `bit` bits, and fewer than 2^64 bits.
abbrev pub IsBit : ℕ → ℕ → ℕ → Type 0
IsBit w count bit = (bit ≤ count * w) × (count * w < 2 ^ 64)

-- ---- symbols as words
-- A caller's buffer of words, and the bit at which the next codeword begins.
pub record BitBuffer (Word : Type 0) : Type 0 where
  pub words : List Word
  pub bit : ℕ

-- Makes one value of a buffer and the bit.
abbrev pub words_at : {Word : Type 0} → List Word → ℕ → BitBuffer Word
words_at words bit = record { words = words; bit = bit }

-- The words hold a queue of bits: the first `bit` bits of the words `old`, and then the bits `code`.
abbrev pub AreWordsFrom : ℕ → List ℕ → ℕ → List Bool → List ℕ → Type 0
AreWordsFrom w old bit code words = IsQueueWords w (take bit (bits_of_words w old) ++ code) words

-- The words hold the bits `begun`, and then the symbols' codewords. These are `count` bits together.
abbrev pub AreQueuedAfter : {S : Type 0} → ℕ → (S → Option (List Bool)) → List Bool → List S → List ℕ → ℕ → Type 0
AreQueuedAfter w codeword begun symbols words count =
    (code : List Bool) × AreCodewords codeword symbols code × IsQueueWords w (begun ++ code) words × (count ≡ length (begun ++ code))

-- With the words `added` in place of those from the word of bit `old.bit` on, a buffer holds its first `old.bit` bits,
-- and then the symbols' codewords. `end` is the bit after these.
abbrev pub AreAddedFrom : {S Word : Type 0} → (Word → ℕ) → ℕ → (S → Option (List Bool)) → BitBuffer Word → List S → List Word → ℕ → Type 0
AreAddedFrom number w codeword old symbols added end = (code : List Bool) × AreCodewords codeword symbols code
    × AreWordsFrom w (map number old.words) old.bit code (map number (take (old.bit / w) old.words ++ added)) × (end ≡ old.bit + length code)

-- A call writes `code` from bit `old.bit` on, and leaves the bits below unchanged. `new.bit` is the bit after `code`.
pub record EncodesCode {Word : Type 0} (number : Word → ℕ) (w : ℕ) (code : List Bool) (old new : BitBuffer Word) : Type 0 where
  -- The new words, from the word that has bit `old.bit` on.
  pub added : List Word
  pub words : Appended old.words (old.bit / w) added new.words (old.bit / w + length added)
  pub bits : AreWordsFrom w (map number old.words) old.bit code (map number (take (old.bit / w) old.words ++ added))
  pub bit : new.bit ≡ old.bit + length code

-- Writing the symbols' codewords from bit `bit` on takes `needed` words in total, but the caller's buffer is shorter.
abbrev pub TooShortFromBit : {S : Type 0} → ℕ → (S → Option (List Bool)) → List S → List ℕ → ℕ → ℕ → Type 0
TooShortFromBit w codeword symbols old bit needed =
    (code : List Bool) × (words : List ℕ) × AreCodewords codeword symbols code × AreWordsFrom w old bit code words × (needed ≡ length words) × (length old < needed)

-- The contract of an encode call, which writes the symbols' codewords from bit `old.bit` of a buffer on.
pub record EncodesAtBit {S Word : Type 0} (symbol : S → ℕ) (number : Word → ℕ) (w : ℕ) (book : SymbolCode) (symbols : List S) (old new : BitBuffer Word) (answer : Result (Unit {0}) Refusal) : Type 0 where
  pub put : OnOk answer ((code : List Bool) × AreCodewords (codeword_in symbol book) symbols code × EncodesCode number w code old new)
  pub asked : Asks WrongLength (IsBit w (length old.words) old.bit) (Asks WrongWeights (MakesCode (2 ^ 62 - 1) book) (Asks ImpossibleSymbol (AllHaveCodewords (codeword_in symbol book) symbols)
      (Otherwise (NoMemoryOrSpace (TooShortFromBit w (codeword_in symbol book) symbols (map number old.words) old.bit))))) answer
  pub kept : OnErr answer (new ≡ old)

-- ---- words as symbols
-- A caller's list of symbols, and the bit at which the next codeword begins.
pub record SymbolBuffer (S : Type 0) : Type 0 where
  pub symbols : List S
  pub bit : ℕ

-- Makes one value of a list of symbols and the bit.
abbrev pub symbols_at : {S : Type 0} → List S → ℕ → SymbolBuffer S
symbols_at symbols bit = record { symbols = symbols; bit = bit }

-- The symbols' codewords are the bits from the old bit up to the new one. Any bits may follow.
abbrev pub DecodesCode : {S : Type 0} → (S → Option (List Bool)) → List Bool → List S → ℕ → ℕ → Type 0
DecodesCode codeword bits symbols old new =
    (code : List Bool) × (rest : List Bool) × AreCodewords codeword symbols code × (drop old bits ≡ code ++ rest) × (new ≡ old + length code)

-- The contract of a decode call, which fills a list with the symbols decoded from bit `old.bit` of the words on.
pub record DecodesAtBit {S : Type 0} (symbol : S → ℕ) (w : ℕ) (book : SymbolCode) (words : List ℕ) (old new : SymbolBuffer S) (answer : Result (Unit {0}) Refusal) : Type 0 where
  pub count : length new.symbols ≡ length old.symbols
  pub taken : OnOk answer (DecodesCode (codeword_in symbol book) (bits_of_words w words) new.symbols old.bit new.bit)
  pub asked : Asks WrongLength (IsBit w (length words) old.bit) (Asks WrongWeights (MakesCode (2 ^ 63 - 1) book)
      (Otherwise (SymbolReadFails (codeword_in symbol book) (IsCutOff book) (IsWrong book) (length old.symbols) (drop old.bit (bits_of_words w words))))) answer
  pub kept : OnErr answer (new ≡ old)
