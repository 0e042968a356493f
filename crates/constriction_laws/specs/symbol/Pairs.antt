-- The outcomes of writing and reading lists of symbols, all with one codebook or each with its own.
use Rattle.std.specs.Prelude.{◌≡◌, ℕ, Bool, List, ◌++◌, Option, Result, Vec, IfOk, length, reverse}
use Rattle.std.specs.List.{zip}
use Rattle.constriction_base.specs.declared.errors.CoderError.{CoderError}
use Rattle.constriction_base.specs.declared.errors.DefaultEncoderFrontendError.{DefaultEncoderFrontendError}
use Rattle.constriction_laws.specs.declared.errors.Stopped.{Stopped}
use Rattle.constriction_laws.specs.symbol.Refusals.{StopsAtItem, StopsAtItemFromBack, StopsReading, SymbolNotWritten}
use Rattle.constriction_symbol.specs.Bits.{BitsValue}
use Rattle.constriction_symbol.specs.Codewords.{LacksMemory, WritesPair}
use Rattle.constriction_symbol.specs.Lists.{AreCodewords, AreCodewordsBy, AreEach, AreSameBy, ReadsAll, ReadsPairs}
use Rattle.constriction_symbol.specs.Lists.{of_pair}
use Rattle.constriction_symbol.specs.Reversed.{StacksPair}
use Rattle.constriction_symbol.specs.declared.codebooks.SymbolCodeError.{SymbolCodeError}

-- Why symbols weren't written, each under its own codebook, from the first to the last.
abbrev pub PairsNotWritten : {C A K S E : Type 0} → (C → List Bool) → (C → Bool → Result (Unit {0}) E → C → Type 0)
    → (K → S → Option (List Bool)) → (K → S → Type 0) → (A → E → Type 0) → List S → List K → C
    → CoderError DefaultEncoderFrontendError E → C → Type 0
PairsNotWritten bits puts codeword wants gives symbols codebooks old e new = SymbolNotWritten
    (StopsAtItem (of_pair codeword) (zip symbols codebooks)) (of_pair codeword)
    (λ now code. bits now ≡ bits old ++ code)
    (WritesPair bits puts (λ book symbol. LacksMemory (wants book symbol) gives) codeword (λ bits. bits)
    (λ symbol. symbol)) e new

-- Why symbols weren't put on a stack, each under its own codebook, from the last to the first.
abbrev pub PairsNotStacked : {W B A K S E : Type 0} → ℕ → (W → ℕ) → (B → W → Result (Unit {0}) E → B → Type 0)
    → (K → S → Option (List Bool)) → (K → S → Type 0) → (A → E → Type 0) → List S → List K → BitsValue B
    → CoderError DefaultEncoderFrontendError E → BitsValue B → Type 0
PairsNotStacked w number writes codeword wants gives symbols codebooks old e new = SymbolNotWritten
    (StopsAtItemFromBack (of_pair codeword) (zip symbols codebooks)) (of_pair codeword)
    (λ now code. reverse now.bits ≡ code ++ reverse old.bits)
    (StacksPair w number writes wants gives codeword (λ symbol. symbol)) e new

-- Symbols whose codewords are unread, each under its own codebook: the call returned them, and the bits behind them are
-- unread.
abbrev pub ReturnsWritten : {I A K S E : Type 0} → (K → S → Option (List Bool)) → (K → S → S → Type 0) → (I → List Bool)
    → List K → I → Result (Vec S A) E → I → Type 0
ReturnsWritten {S = S} codeword same unread codebooks old result new = (symbols : List S) (code rest : List Bool)
    → length symbols ≡ length codebooks → AreCodewordsBy codeword codebooks symbols code → unread old ≡ code ++ rest
    → IfOk result (λ again. AreSameBy same codebooks again.items symbols × (unread new ≡ rest))

-- If the codewords of symbols are unread, as many symbols that are read under the codebook mean the same, and the rest
-- is unread.
abbrev pub ComeBackUnder : {I K S V E : Type 0} → (I → Option (Result Bool E) → I → Type 0) → (I → List Bool)
    → (K → S → Option (List Bool)) → (K → List Bool → Type 0) → (K → List Bool → V → Type 0) → (K → S → S → Type 0) → K
    → List S → List S → List Bool → List Bool → I → I → Type 0
ComeBackUnder next unread codeword reads_on is_invalid same codebook symbols again code rest old new =
    AreCodewords (codeword codebook) symbols code → unread old ≡ code ++ rest → length again ≡ length symbols
    → ReadsAll next (codeword codebook) (reads_on codebook) (is_invalid codebook) again old new
    → AreEach (same codebook) again symbols × (unread new ≡ rest)

-- The same of symbols that have a codebook each.
abbrev pub ComeBackUnderEach : {I K S V E : Type 0} → (I → Option (Result Bool E) → I → Type 0) → (I → List Bool)
    → (K → S → Option (List Bool)) → (K → List Bool → Type 0) → (K → List Bool → V → Type 0) → (K → S → S → Type 0)
    → List K → List S → List S → List Bool → List Bool → I → I → Type 0
ComeBackUnderEach next unread codeword reads_on is_invalid same codebooks symbols again code rest old new =
    length symbols ≡ length codebooks → length again ≡ length codebooks
    → AreCodewordsBy codeword codebooks symbols code → unread old ≡ code ++ rest
    → ReadsPairs next codeword reads_on is_invalid (zip again codebooks) old new
    → AreSameBy same codebooks again symbols × (unread new ≡ rest)

-- Fewer symbols were read under the codebook than asked for, and then this was answered.
abbrev pub StopsUnder : {I K S V E : Type 0} → (I → Option (Result Bool E) → I → Type 0) → (K → S → Option (List Bool))
    → (K → List Bool → Type 0) → (K → List Bool → V → Type 0) → K → ℕ → I → Stopped (CoderError (SymbolCodeError V) E)
    → I → Type 0
StopsUnder next codeword reads_on is_invalid codebook amt old stopped new =
    StopsReading next (codeword codebook) (reads_on codebook) (is_invalid codebook) amt old stopped new
