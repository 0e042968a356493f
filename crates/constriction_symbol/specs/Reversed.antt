-- Emitting reversed codewords, and pushing codewords in suffix form onto a stack of bits.
use Rattle.std.specs.Prelude.{◌≡◌, ℕ, ◌<◌, Bool, List, length, reverse, Option, Some, None, Result, Ok, Err}
use Rattle.std.specs.Fn.{Mut}
use Rattle.constriction_base.specs.declared.errors.CoderError.TheVariants.{Frontend, Backend}
use Rattle.constriction_symbol.specs.Bits.{BitsValue, PutsOnto}
use Rattle.constriction_symbol.specs.Codewords.{Answer, EmitsCodeword, LacksMemory, WritesPair, WritesSymbol}

-- There is a codeword, and it has more than `count` bits.
abbrev pub IsLongerThan : ℕ → Option (List Bool) → Type 0
IsLongerThan count None = ⊥
IsLongerThan count (Some bits) = count < length bits

-- The bits of a codeword are emitted. Only a codeword of more than `count` bits may need memory.
abbrev pub EmitsUnlessLong : {F A E : Type 0} → Mut F (Bool × Unit {0}) (Result (Unit {0}) E) → ℕ → (A → E → Type 0) → F
    → Option (List Bool) → Answer E → F → Type 0
EmitsUnlessLong g count gives f code r last =
    EmitsCodeword g (LacksMemory (IsLongerThan count code) gives) f code r last

-- The suffix form of a codeword is pushed onto an empty stack. The push fails only if there is no codeword, or if the
-- codeword has more than `count` bits and the stack has no memory.
abbrev pub StacksCodeword : {E : Type 0} → ℕ → Option (List Bool) → Answer E → List Bool → Type 0
StacksCodeword count code (Ok _) stack = code ≡ Some (reverse stack)
StacksCodeword count code (Err (Frontend _)) stack = code ≡ None
StacksCodeword count code (Err (Backend _)) stack = IsLongerThan count code

-- The suffix form of a lent symbol's codeword, in the codebook beside the symbol, is pushed onto a coder. `write` is a
-- write of the coder's backend.
abbrev pub StacksPair : {W B E A L K S : Type 0} → ℕ → (W → ℕ) → (B → W → Result (Unit {0}) E → B → Type 0)
    → (K → S → Type 0) → (A → E → Type 0) → (K → S → Option (List Bool)) → (L → S)
    → BitsValue B → L × K → Answer E → BitsValue B → Type 0
StacksPair {B = B} w number write wants gives codeword lent =
    WritesPair {C = BitsValue B} (λ c. c.bits) (PutsOnto w number write)
    (λ codebook symbol. LacksMemory (wants codebook symbol) gives) codeword reverse lent

-- The suffix form of a lent symbol's codeword is pushed onto a coder. All symbols have one codebook.
abbrev pub StacksSymbol : {W B E A L S : Type 0} → ℕ → (W → ℕ) → (B → W → Result (Unit {0}) E → B → Type 0)
    → (S → Type 0) → (A → E → Type 0) → (S → Option (List Bool)) → (L → S)
    → BitsValue B → L → Answer E → BitsValue B → Type 0
StacksSymbol {B = B} w number write wants gives codeword lent =
    WritesSymbol {C = BitsValue B} (λ c. c.bits) (PutsOnto w number write)
    (λ symbol. LacksMemory (wants symbol) gives) codeword reverse lent
