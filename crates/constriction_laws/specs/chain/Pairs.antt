-- The outcomes of decoding symbols from one chain coder or from two, each symbol with its own model, and of encoding
-- the symbols back.
use Rattle.std.specs.Prelude.{◌≡◌, ◌⊎◌, ℕ, ◌<◌, List, Vec, length, map, reverse}
use Rattle.constriction_base.specs.Models.{Item, pairs_of}
use Rattle.constriction_base.specs.declared.backends.reading.Holds as holding
use Rattle.constriction_base.specs.declared.backends.reading.ReadWords as reading
use Rattle.constriction_base.specs.declared.backends.writing.WriteWords as writing
use Rattle.constriction_chain.specs.Chain.{ChainState, ChainValue}
use Rattle.constriction_chain.specs.Imports.{FromRemainders}
use Rattle.constriction_chain.specs.Runs.{AreIsolated}
use Rattle.constriction_chain.specs.Steps.{DecodeCall, Halted}
use Rattle.constriction_chain.specs.Symbols.{ChainEncodesAll, ChainDecodesAll}
use Rattle.constriction_chain.specs.Words.{remainder_words}
use Rattle.constriction_laws.specs.chain.Endings.{Ended, EndsEarly, NotPutBack, OnlyEnds, RefusedAmong, ChainDecodedList}
use Rattle.constriction_laws.specs.Outcomes.{DecodesPairs}
use Rattle.constriction_laws.specs.chain.Isolating.{decodings_by}
use Rattle.constriction_laws.specs.declared.chain.errors.PutBackError.{PutBackError}
use Rattle.constriction_laws.specs.declared.errors.RoundTripError.{RoundTripError}

-- Decodes of the symbols, each under its own model, lead from the one coder to the other.
abbrev pub ChainDecodesPairs : {S M C R : Type 0} → ℕ → ℕ → ℕ → (M → List (S × ℕ × ℕ)) → List S → List M → ChainValue C R
    → ChainValue C R → Type 0
ChainDecodesPairs w s precision table symbols models old new =
    ChainDecodesAll w s (pairs_of precision table symbols models) old.state new.state

-- Fewer symbols were taken than there are models; over a backend that knows its words they ended there.
abbrev pub PairsEndEarly : {S M : Type 0} → Type 0 → ℕ → ℕ → ℕ → (M → List (S × ℕ × ℕ)) → List M → ChainState → ℕ
    → ChainState → Type 0
PairsEndEarly is_list w s precision table models old taken new =
    EndsEarly is_list w s precision (λ given. pairs_of precision table given models) (length models) old taken new

-- So many symbols were taken, fewer than there are models, and then a word is needed and none is left.
abbrev pub PairsEnded : {S M : Type 0} → ℕ → ℕ → ℕ → (M → List (S × ℕ × ℕ)) → List M → ChainState → ℕ → Type 0
PairsEnded w s precision table models old taken =
    (taken < length models) × (after : ChainState)
    × Ended w s precision (λ given. pairs_of precision table given models) taken old after

-- Decodes of the items lead to a state of these words: the prefix is compressed, the suffix is that of the remainders.
abbrev pub ChainDecodesApart : {W S : Type 0} → (W → ℕ) → ℕ → ℕ → List (Item S) → ChainState → List W → List W → Type 0
ChainDecodesApart number w s items old prefix suffix = (after : ChainState) × ChainDecodesAll w s items old after
    × (map number (reverse prefix) ≡ after.compressed) × (map number (reverse suffix) ≡ remainder_words w after)

-- Encodes of the symbols, from the last to the first, lead from the coder of these remainders to this state.
abbrev pub ChainEncodesPairs : {S M : Type 0} → ℕ → ℕ → ℕ → (M → List (S × ℕ × ℕ)) → List S → List M → List ℕ → ChainState
    → Type 0
ChainEncodesPairs w s precision table symbols models words last =
    (before : ChainState) × FromRemainders w s precision words before
    × ChainEncodesAll w s (reverse (pairs_of precision table symbols models)) before last

-- Why the symbols, from the last to the first, weren't put back to the coder of these remainders.
abbrev pub PairsNotPutBack : {S M : Type 0} → ℕ → ℕ → ℕ → (M → List (S × ℕ × ℕ)) → List ℕ → List S → List M
    → PutBackError → Type 0
PairsNotPutBack w s precision table words symbols models e =
    NotPutBack w s precision words (reverse (pairs_of precision table symbols models))
    (length symbols ≡ length models → ⊥) e

-- ---- two coders

-- There is a symbol for each model.
abbrev pub AreOneEach : {S T M L A B : Type 0} → List M → List L → Vec S A × Vec T B → Type 0
AreOneEach models others both = (length both.0.items ≡ length models) × (length both.1.items ≡ length others)

-- Both lists of symbols are isolated, each symbol under its own model.
abbrev pub AreIsolatedBy : {S M L A B : Type 0} → ℕ → (M → List (S × ℕ × ℕ)) → List M → (L → List (S × ℕ × ℕ)) → List L
    → Vec S A × Vec S B → Type 0
AreIsolatedBy precision table models other others both =
    AreIsolated (decodings_by precision table both.0.items models) (decodings_by precision other both.1.items others)

-- One coder ended early, and the other didn't change; or the one took off its symbols, and the other ended early.
abbrev pub EndsInTwo : {S M L C R : Type 0} → Type 0 → ℕ → ℕ → ℕ → (M → List (S × ℕ × ℕ)) → List M → ChainValue C R
    → ChainValue C R → (L → List (S × ℕ × ℕ)) → List L → ChainValue C R → ChainValue C R → RoundTripError → Type 0
EndsInTwo is_list w s precision table models old new other others same again e = OnlyEnds (λ taken.
    (PairsEndEarly is_list w s precision table models old.state taken new.state × (again ≡ same))
    ⊎ (ChainDecodedList is_list w s (λ given. pairs_of precision table given models) (length models) old.state new.state
    × PairsEndEarly is_list w s precision other others same.state taken again.state)) e

module _ {W C R Q E F : Type 0} (number : W → ℕ) (holds : holding.Ghosts C W Q) (reads : reading.Ghosts C W Q E)
    (keeps : holding.Ghosts R W Q) (writes : writing.Ghosts R W F) (w s precision : ℕ) where
  -- A backend refuses the decode of one of the symbols, or a request for memory is refused.
  abbrev pub PairsRefused : {S M : Type 0} → (M → List (S × ℕ × ℕ)) → List M → ChainValue C R → ChainValue C R → Type 0
  PairsRefused {S} table models old new = RefusedAmong {S = S} (DecodeCall number holds reads keeps writes w s)
      (Halted number holds reads keeps writes w s precision) precision table models old new

  -- Decodes of the symbols, each with its own model, lead from the old coder to the new one. Each decode makes its reads
  -- and its write, and no others.
  abbrev pub DecodesByReads : {S M : Type 0} → (M → List (S × ℕ × ℕ)) → List S → List M → ChainValue C R → ChainValue C R
      → Type 0
  DecodesByReads table symbols models old new = DecodesPairs (DecodeCall number holds reads keeps writes w s)
      (Halted number holds reads keeps writes w s precision) precision table symbols models old new

  -- Either the first coder is refused and the second coder doesn't change, or the first coder decodes its symbols and
  -- the second coder is refused.
  abbrev pub RefusedInTwo : {S M L : Type 0} → (M → List (S × ℕ × ℕ)) → List M → ChainValue C R → ChainValue C R
      → (L → List (S × ℕ × ℕ)) → List L → ChainValue C R → ChainValue C R → Type 0
  RefusedInTwo table models old new other others same again = (PairsRefused table models old new × (again ≡ same))
      ⊎ (ChainDecodedList holds.is_list w s (λ given. pairs_of precision table given models) (length models) old.state new.state
      × PairsRefused other others same again)
