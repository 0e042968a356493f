-- Definitions of calls that encode the symbols of an iterator, by the rules of the trait `Encode` for one symbol.
use Rattle.std.specs.Prelude.{ℕ, List, Option, Result}
use Rattle.std.specs.Iterator.{Count}
use Rattle.constriction_base.specs.Steps.{Step}
use Rattle.constriction_base.specs.declared.errors.CoderError.{CoderError}
use Rattle.constriction_stream.specs.Lists.{YieldsUpTo, LowersByItems, StepsUntilFault, TriesItem}
use Rattle.constriction_stream.specs.Symbols.{EncodesPair, EncodesSymbol}
use Rattle.constriction_stream.specs.declared.errors.TryCodingError.{TryCodingError}

-- `coder` has the rules of an `Encode`. `gives`, `next` and `remaining` are the rules of the list's iterator.
module _ {C V F B : Type 0} (coder : record {
  shows : C → V → Type 0;
  encodes : C → Step → Result (Unit {0}) (CoderError F B) → C → Type 0;
  is_impossible_symbol : F → Type 0;
  counts_symbols : Type 0;
  symbols_left : C → ℕ;
  is_lack_of_room : CoderError F B → Type 0;
  tells_room : C → Type 0;
}) where
  -- Each such iterator can be called, and ends. If the coder counts symbols, the iterator returns at most as many items
  -- as symbols are left.
  abbrev pub YieldsUpToLeft : {I : Type 0} → (I → Type 0) → (I → Type 0) → (I → Count) → C → Type 0
  YieldsUpToLeft gives can_next remaining old = YieldsUpTo gives can_next remaining coder.counts_symbols (coder.symbols_left old)

  -- Symbols with their models are encoded in order, up to the first symbol that is refused.
  abbrev pub EncodesEachPair : {S M A I : Type 0} → ℕ → (M → List (S × ℕ × ℕ)) → (A → S) → (I → Type 0) → (I → Option (A × M) → I → Type 0)
      → C → Result (Unit {0}) (CoderError F B) → C → Type 0
  EncodesEachPair precision table lent gives next old result new =
      StepsUntilFault (EncodesPair coder.encodes coder.is_impossible_symbol precision table lent) gives next old result new

  -- `EncodesEachPair` for items that may be errors, up to the first error.
  abbrev pub TriesPairs : {S M A I Q : Type 0} → ℕ → (M → List (S × ℕ × ℕ)) → (A → S) → (I → Type 0) → (I → Option (Result (A × M) Q) → I → Type 0)
      → C → Result (Unit {0}) (TryCodingError (CoderError F B) Q) → C → Type 0
  TriesPairs precision table lent gives next old result new =
      StepsUntilFault (TriesItem (EncodesPair coder.encodes coder.is_impossible_symbol precision table lent)) gives next old result new

  -- `EncodesEachPair` for symbols with one table.
  abbrev pub EncodesSymbols : {S A I : Type 0} → ℕ → List (S × ℕ × ℕ) → (A → S) → (I → Type 0) → (I → Option A → I → Type 0)
      → C → Result (Unit {0}) (CoderError F B) → C → Type 0
  EncodesSymbols precision table lent gives next old result new =
      StepsUntilFault (λ old symbol result new. EncodesSymbol coder.encodes coder.is_impossible_symbol precision table (lent symbol) old result new)
      gives next old result new

  -- The number of symbols left falls by at most the number of items.
  abbrev pub LowersLeft : {I : Type 0} → (I → Type 0) → (I → Count) → C → C → Type 0
  LowersLeft gives remaining old new = LowersByItems gives remaining (coder.symbols_left old) (coder.symbols_left new)
