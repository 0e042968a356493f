-- The reasons why codewords aren't written or read, and why weights make no Huffman tree.
use Rattle.std.specs.Prelude.{◌≡◌, ℕ, ◌<◌, ◌≤◌, ◌⊎◌, ⊤, Bool, List, ◌∷◌, ◌++◌, Option, None, Result, Err, length, drop}
use Rattle.std.specs.List.{zip}
use Rattle.constriction_base.specs.declared.errors.CoderError.{CoderError}
use Rattle.constriction_base.specs.declared.errors.CoderError.TheVariants.{Frontend, Backend}
use Rattle.constriction_base.specs.declared.errors.DefaultEncoderFrontendError.{DefaultEncoderFrontendError}
use Rattle.constriction_laws.specs.declared.errors.Stopped.{Stopped}
use Rattle.constriction_laws.specs.declared.errors.Stopped.TheVariants as stopped
use Rattle.constriction_symbol.specs.Codewords.{Answer, ReadsSymbol}
use Rattle.constriction_symbol.specs.Merging.{MakeNoTree}
use Rattle.constriction_symbol.specs.declared.codebooks.SymbolCodeError.{SymbolCodeError}
use Rattle.constriction_symbol.specs.declared.huffman.error.HuffmanError.{HuffmanError}
use Rattle.constriction_symbol.specs.declared.huffman.error.HuffmanError.TheVariants as huffman_error
use Rattle.constriction_symbol.specs.Lists.{AreCodewords, ReadsAll, ReadsPairs}

-- Writing the items from first to last stops at one item. The bits `code` are the codewords of the items before it. The
-- statement `holds` is true for the item and `code`.
abbrev pub StopsAtItem : {A : Type 0} → (A → Option (List Bool)) → List A → (A → List Bool → Type 0) → Type 0
StopsAtItem {A} codeword items holds =
    (before after : List A) × (item : A) × (code : List Bool) × (items ≡ before ++ item ∷ after)
    × AreCodewords codeword before code × holds item code

-- Writing the items from last to first stops at one item. The bits `code` are the codewords of the items after it, in
-- the order of the list. The statement `holds` is true for the item and `code`.
abbrev pub StopsAtItemFromBack : {A : Type 0} → (A → Option (List Bool)) → List A → (A → List Bool → Type 0) → Type 0
StopsAtItemFromBack {A} codeword items holds =
    (before after : List A) × (item : A) × (code : List Bool) × (items ≡ before ++ item ∷ after)
    × AreCodewords codeword after code × holds item code

-- The reason why writing a list of items stops. Either the next item has no codeword, and the bits written are exactly
-- the codewords of the items before it. Or the write of the next item fails with this error.
abbrev pub SymbolNotWritten : {A C E : Type 0} → ((A → List Bool → Type 0) → Type 0) → (A → Option (List Bool))
    → (C → List Bool → Type 0) → (C → A → Answer E → C → Type 0) → CoderError DefaultEncoderFrontendError E → C → Type 0
SymbolNotWritten stops codeword has writes (Frontend e) new = stops (λ item code. (codeword item ≡ None) × has new code)
SymbolNotWritten {C = C} stops codeword has writes (Backend e) new =
    stops (λ item code. (mid : C) × has mid code × writes mid item (Err (Backend e)) new)

-- The bits don't begin with the codewords of any `amt` symbols.
abbrev pub NoCodewordsBegin : {S : Type 0} → (S → Option (List Bool)) → ℕ → List Bool → Type 0
NoCodewordsBegin {S} codeword amt bits =
    (symbols : List S) (code rest : List Bool) → AreCodewords codeword symbols code → bits ≡ code ++ rest
    → amt ≡ length symbols → ⊥

-- The reason why decoding `amt` symbols stops. `Refused(e)`: fewer than `amt` symbols were decoded, and the next decode
-- fails with e.
abbrev pub StopsReading : {I S V E : Type 0} → (I → Option (Result Bool E) → I → Type 0) → (S → Option (List Bool))
    → (List Bool → Type 0) → (List Bool → V → Type 0) → ℕ → I → Stopped (CoderError (SymbolCodeError V) E) → I → Type 0
StopsReading {I} {S} next codeword reads_on is_invalid amt old (stopped.Refused e) new =
    (given : List S) × (mid : I) × (length given < amt)
    × ReadsAll next codeword reads_on is_invalid given old mid
    × ReadsSymbol next codeword reads_on is_invalid mid (Err e) new
StopsReading next codeword reads_on is_invalid amt old stopped.NoMemory new = ⊤

-- The reason why decoding stops, if each symbol has its own codebook. `Refused(e)`: the decode with the next codebook
-- fails with e. `NoMemory`: there is no memory for the symbols, after decodes with the first codebooks.
abbrev pub StopsAtCodebook : {I K S V E : Type 0} → (I → Option (Result Bool E) → I → Type 0)
    → (K → S → Option (List Bool)) → (K → List Bool → Type 0) → (K → List Bool → V → Type 0) → List K → I
    → Stopped (CoderError (SymbolCodeError V) E) → I → Type 0
StopsAtCodebook {I} {K} {S} next codeword reads_on is_invalid books old (stopped.Refused e) new =
    (given : List S) × (mid : I) × (book : K) × (rest : List K)
    × (drop (length given) books ≡ book ∷ rest) × ReadsPairs next codeword reads_on is_invalid (zip given books) old mid
    × ReadsSymbol next (codeword book) (reads_on book) (is_invalid book) mid (Err e) new
StopsAtCodebook {S = S} next codeword reads_on is_invalid books old stopped.NoMemory new =
    (given : List S) × (length given ≤ length books) × ReadsPairs next codeword reads_on is_invalid (zip given books) old new

-- The reason why the weights make no Huffman tree with at most `most` symbols: there is no memory, or `MakeNoTree`
-- holds.
abbrev pub HaveNoTree : {P E : Type 0} → (P → ℕ) → ℕ → ℕ → List P → HuffmanError E → Type 0
HaveNoTree number bits most weights e = (e ≡ huffman_error.Memory) ⊎ MakeNoTree number bits most weights e
