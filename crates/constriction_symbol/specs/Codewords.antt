-- Codewords as codebooks emit and read them, and as bit streams write them.
use Rattle.std.specs.Prelude.{◌≡◌, ℕ, ◌<◌, ◌^◌, reverse, Bool, List, [], ◌∷◌, ◌++◌, ◌⊎◌, Option, Some, None, Result, Ok, Err, map, MatchResult, ⊤}
use Rattle.std.specs.Iterator.{Yields}
use Rattle.constriction_symbol.specs.Bits.{bits_of, top_bits}
use Rattle.std.specs.Fn.{Mut, Called}
use Rattle.constriction_base.specs.declared.errors.CoderError.{CoderError}
use Rattle.constriction_base.specs.declared.errors.CoderError.TheVariants.{Frontend, Backend}
use Rattle.constriction_base.specs.declared.errors.DefaultEncoderFrontendError.{DefaultEncoderFrontendError}
use Rattle.constriction_base.specs.declared.errors.DefaultEncoderFrontendError.TheVariants.{ImpossibleSymbol}
use Rattle.constriction_stream.specs.Lists.{StepsAll}
use Rattle.constriction_symbol.specs.declared.codebooks.SymbolCodeError.{SymbolCodeError}
use Rattle.constriction_symbol.specs.declared.codebooks.SymbolCodeError.TheVariants.{OutOfCompressedData, InvalidCodeword}

-- The answer of an encode, where the emitter's error is E.
abbrev pub Answer : Type 0 → Type 0
Answer E = Result (Unit {0}) (CoderError DefaultEncoderFrontendError E)

-- The emitter f is called with each bit in order, up to and including the first call that fails. Then it is `last`.
abbrev pub Emits : {F E : Type 0} → Mut F (Bool × Unit {0}) (Result (Unit {0}) E)
    → F → List Bool → Answer E → F → Type 0
Emits g f [] r last = (r ≡ Ok tt) × (f ≡ last)
Emits {F} {E} g f (b ∷ bs) r last =
    ((next : F) × Called g f (b, tt) (Ok tt) next × Emits g next bs r last)
    ⊎ ((e : E) × Called g f (b, tt) (Err e) last × (r ≡ Err (Backend e)))

-- Memory is needed, and the error is made from the allocator's error.
abbrev pub LacksMemory : {A E : Type 0} → Type 0 → (A → E → Type 0) → E → Type 0
LacksMemory {A} wants gives e = wants × ((a : A) × gives a e)

-- The chosen form (prefix or suffix) of a symbol's codeword needs memory, and the error is as in `LacksMemory`.
abbrev pub LacksMemoryFor : {A K S E : Type 0} → (Type 0 → Type 0 → Type 0) → (K → S → Type 0) → (K → S → Type 0)
    → (A → E → Type 0) → K → S → E → Type 0
LacksMemoryFor chosen prefix suffix gives codebook symbol =
    LacksMemory (chosen (prefix codebook symbol) (suffix codebook symbol)) gives

-- The chosen form (prefix or suffix) of a symbol's codeword may need memory.
abbrev pub WantsMemory : {K S : Type 0} → (Type 0 → Type 0 → Type 0) → (K → S → Type 0) → (K → S → Type 0) → K → S
    → Type 0
WantsMemory chosen prefix suffix codebook symbol = chosen (prefix codebook symbol) (suffix codebook symbol)

-- The bits of a codeword are emitted. No bit is emitted without a codeword, or without memory that is needed.
abbrev pub EmitsCodeword : {F E : Type 0} → Mut F (Bool × Unit {0}) (Result (Unit {0}) E) → (E → Type 0) → F
    → Option (List Bool) → Answer E → F → Type 0
EmitsCodeword g wants f None r last = (r ≡ Err (Frontend ImpossibleSymbol)) × (f ≡ last)
EmitsCodeword {F} {E} g wants f (Some bits) r last =
    Emits g f bits r last ⊎ ((e : E) × wants e × (r ≡ Err (Backend e)) × (f ≡ last))

-- The write of one bit of a codeword is refused: exactly the bits before it are written, one by one.
pub record RefusedAt {C E : Type 0} (bits : C → List Bool) (puts : C → Bool → Result (Unit {0}) E → C → Type 0)
    (old : C) (code : List Bool) (e : E) (new : C) : Type 0 where
  -- The bits before the refused bit, that bit, and the bits behind it.
  pub front : List Bool
  pub bit : Bool
  pub back : List Bool
  pub whole : code ≡ front ++ bit ∷ back
  -- The stream that refuses the bit. Writing the bits before the refused bit, one by one, leads to this stream.
  pub mid : C
  pub before : StepsAll puts old front mid
  -- The write of the refused bit returns the error, and leaves the new stream.
  pub refused : puts mid bit (Err e) new
  -- The new stream has the old bits, and then exactly the bits before the refused bit.
  pub begun : bits new ≡ bits old ++ front

-- The stream appends a codeword as if bit by bit. If a bit is refused, only the bits before it are appended. If memory
-- is needed and not available, the stream is unchanged.
abbrev pub WritesEachBit : {C E : Type 0} → (C → List Bool) → (C → Bool → Result (Unit {0}) E → C → Type 0)
    → (E → Type 0) → C → List Bool → Answer E → C → Type 0
WritesEachBit bits puts wants old code (Ok _) new = (bits new ≡ bits old ++ code) × StepsAll puts old code new
WritesEachBit bits puts wants old code (Err (Frontend _)) new = ⊥
WritesEachBit bits puts wants old code (Err (Backend e)) new =
    RefusedAt bits puts old code e new ⊎ (wants e × (new ≡ old))

-- The stream appends the codeword of a symbol. If the symbol has none, nothing changes.
abbrev pub WritesCodeword : {C E : Type 0} → (C → List Bool) → (C → Bool → Result (Unit {0}) E → C → Type 0)
    → (E → Type 0) → C → Option (List Bool) → Answer E → C → Type 0
WritesCodeword bits puts wants old None r new = (r ≡ Err (Frontend ImpossibleSymbol)) × (new ≡ old)
WritesCodeword bits puts wants old (Some code) r new = WritesEachBit bits puts wants old code r new

-- The codeword in the given form, or `None` if there is no codeword.
abbrev pub formed : (List Bool → List Bool) → Option (List Bool) → Option (List Bool)
formed form None = None
formed form (Some bits) = Some (form bits)

-- The bits of a symbol's codeword are emitted in the given form. `wants` says whether this may need memory.
abbrev pub EmitsSymbol : {F A K S E : Type 0} → Mut F (Bool × Unit {0}) (Result (Unit {0}) E) → (K → S → Type 0)
    → (A → E → Type 0) → (List Bool → List Bool) → (K → S → Option (List Bool)) → K → S → F → Answer E → F → Type 0
EmitsSymbol g wants gives form codeword codebook symbol f r last =
    EmitsCodeword g (LacksMemory (wants codebook symbol) gives) f (formed form (codeword codebook symbol)) r last

-- The stream appends the codeword of a symbol that an item lends. Each symbol has its own codebook beside it, or
-- (below) all symbols have one codebook.
abbrev pub WritesPair : {C L K S E : Type 0} → (C → List Bool) → (C → Bool → Result (Unit {0}) E → C → Type 0)
    → (K → S → E → Type 0) → (K → S → Option (List Bool)) → (List Bool → List Bool) → (L → S)
    → C → L × K → Answer E → C → Type 0
WritesPair bits puts wants codeword form lent old pair r new =
    WritesCodeword bits puts (wants pair.1 (lent pair.0)) old (formed form (codeword pair.1 (lent pair.0))) r new

abbrev pub WritesSymbol : {C L S E : Type 0} → (C → List Bool) → (C → Bool → Result (Unit {0}) E → C → Type 0)
    → (S → E → Type 0) → (S → Option (List Bool)) → (List Bool → List Bool) → (L → S) → C → L → Answer E → C → Type 0
WritesSymbol bits puts wants codeword form lent old item r new =
    WritesCodeword bits puts (wants (lent item)) old (formed form (codeword (lent item))) r new

-- The codeword is the `count` lowest bits of a number, first bit highest. All higher bits are 0, and 0 < count < w.
pub record IsLowBits (w : ℕ) (codeword : Option (List Bool)) (number count : ℕ) : Type 0 where
  pub some : 0 < count
  pub part : count < w
  pub small : number < 2 ^ count
  pub is : codeword ≡ Some (reverse (bits_of count number))

-- The codeword is the `count` highest of the w bits of a number, and has fewer than `all` bits.
pub record BeginsTopBits (w all number : ℕ) (codeword : Option (List Bool)) (count : ℕ) : Type 0 where
  pub some : 0 < count
  pub part : count < all
  pub is : codeword ≡ Some (top_bits w count number)

-- The bits begin with no codeword.
abbrev pub NoCodewordBegins : {S : Type 0} → (S → Option (List Bool)) → List Bool → Type 0
NoCodewordBegins {S} codeword bits =
    (symbol : S) (code tail : List Bool) → codeword symbol ≡ Some code → bits ≡ code ++ tail → ⊥

-- The bits begin with no codeword, whatever bits follow them.
abbrev pub NoCodewordFits : {S : Type 0} → (S → Option (List Bool)) → List Bool → Type 0
NoCodewordFits codeword bits = (rest : List Bool) → NoCodewordBegins codeword (bits ++ rest)

abbrev pub as_item : {E : Type 0} → Bool → Result Bool E
as_item b = Ok b

-- An iterator of `Result`s of bits gives these bits, in order.
abbrev pub YieldsBits : {I E : Type 0} → (I → Option (Result Bool E) → I → Type 0) → I → List Bool → I → Type 0
YieldsBits {E = E} next old bits new = Yields next old (map (as_item {E = E}) bits) new

-- The iterator gives these bits, and then ends.
abbrev pub EndsAfter : {I E : Type 0} → (I → Option (Result Bool E) → I → Type 0) → I → List Bool → I → Type 0
EndsAfter {I} next old bits new = (last : I) × YieldsBits next old bits last × next last None new

-- The iterator gives these bits, and then an error.
abbrev pub FailsAfter : {I E : Type 0} → (I → Option (Result Bool E) → I → Type 0) → I → List Bool → E → I → Type 0
FailsAfter {I} next old bits e new = (last : I) × YieldsBits next old bits last × next last (Some (Err e)) new

-- After bits for which `reads_on` holds, the source ends or returns an error.
abbrev pub StopsWithin : {I V E : Type 0} → (I → Option (Result Bool E) → I → Type 0) → (List Bool → Type 0) → I
    → CoderError (SymbolCodeError V) E → I → Type 0
StopsWithin next reads_on old (Frontend OutOfCompressedData) new =
    (bits : List Bool) × reads_on bits × EndsAfter next old bits new
StopsWithin next reads_on old (Frontend (InvalidCodeword e)) new = ⊥
StopsWithin next reads_on old (Backend e) new = (bits : List Bool) × reads_on bits × FailsAfter next old bits e new

-- A decode reads the bits of a codeword and returns its symbol. A decode fails if the source ends or returns an error
-- while the codebook reads on, or if the bits read are invalid.
abbrev pub ReadsSymbol : {I S V E : Type 0} → (I → Option (Result Bool E) → I → Type 0) → (S → Option (List Bool))
    → (List Bool → Type 0) → (List Bool → V → Type 0)
    → I → Result S (CoderError (SymbolCodeError V) E) → I → Type 0
ReadsSymbol next codeword reads_on is_invalid old (Ok symbol) new =
    (bits : List Bool) × (codeword symbol ≡ Some bits) × YieldsBits next old bits new
ReadsSymbol next codeword reads_on is_invalid old (Err (Frontend OutOfCompressedData)) new =
    (bits : List Bool) × reads_on bits × EndsAfter next old bits new
ReadsSymbol next codeword reads_on is_invalid old (Err (Frontend (InvalidCodeword e))) new =
    (bits : List Bool) × is_invalid bits e × YieldsBits next old bits new
ReadsSymbol next codeword reads_on is_invalid old (Err (Backend e)) new =
    (bits : List Bool) × reads_on bits × FailsAfter next old bits e new

-- After this error of a decode the fact holds, unless the error says that the bits ended.
abbrev pub OrBitsEnd : {V E : Type 0} → CoderError (SymbolCodeError V) E → Type 0 → Type 0
OrBitsEnd (Frontend OutOfCompressedData) Fact = ⊤
OrBitsEnd (Frontend (InvalidCodeword _)) Fact = Fact
OrBitsEnd (Backend _) Fact = Fact

-- After a decode the fact holds, unless the bits ended before a codeword was complete.
abbrev pub UnlessBitsEnd : {S V E : Type 0} → Result S (CoderError (SymbolCodeError V) E) → Type 0 → Type 0
UnlessBitsEnd answer Fact = MatchResult answer (λ _. Fact) (λ e. OrBitsEnd e Fact)

-- A decode of bits that begin with a symbol's codeword reads exactly the codeword, and returns a symbol that means the
-- same. It fails only if the source returns an error.
abbrev pub ComesBack : {S V E : Type 0} → (S → S → Type 0) → S → List Bool → Result S (CoderError (SymbolCodeError V) E)
    → List Bool → Type 0
ComesBack same symbol rest (Ok t) unread = same t symbol × (unread ≡ rest)
ComesBack same symbol rest (Err (Frontend _)) unread = ⊥
ComesBack same symbol rest (Err (Backend _)) unread = ⊤
