-- Imports and exports of chain coders, in compressed and in binary form. In the compressed form, the remainders head
-- becomes its words without leading zeros. In binary form, it becomes the words below its leading 1. Words are listed
-- in reading order.
use Rattle.std.specs.Prelude.{◌≡◌, ◌⊎◌, ℕ, ◌^◌, ◌<◌, List, ◌∷◌, ◌++◌, map, Option, None, Some, Result, Ok, Err, IfNone, IfOk, IfSome}
use Rattle.std.specs.Int.Digits.{digits_of, number_from_digits}
use Rattle.constriction_base.specs.Digits.{fixed_digits}
use Rattle.constriction_base.specs.Readings.{ReadsReturn, BeginsHigh, ReadsAs, StopsAt}
use Rattle.constriction_base.specs.Writing.{IsOneAbove, NotWritten}
use Rattle.constriction_base.specs.declared.backends.reading.Holds as holding
use Rattle.constriction_base.specs.declared.backends.reading.ReadWords as reading
use Rattle.constriction_base.specs.declared.backends.writing.WriteWords as writing
use Rattle.constriction_base.specs.declared.errors.CoderError.{CoderError}
use Rattle.constriction_base.specs.declared.errors.CoderError.TheVariants.{Frontend, Backend}
use Rattle.constriction_chain.specs.Chain.{ChainState}

-- ---- written

-- The words of exported remainders: the compressed head, the words of the remainders head without leading zeros, and
-- the words below.
abbrev pub remainder_words : ℕ → ChainState → List ℕ
remainder_words w x = x.h ∷ (digits_of (2 ^ w) x.r ++ x.remainders)

-- The coder has a binary form: no bits are left over, and the remainders head is a 1 above whole words.
abbrev pub IsInBinary : ℕ → ChainState → Type 0
IsInBinary w x = (x.h ≡ 1) × ((m : ℕ) × IsOneAbove w m x.r)

-- The backend refuses the words below the leading 1 of r with the error e.
abbrev pub BinaryNotWritten : {W B E S : Type 0} → (W → ℕ) → holding.Ghosts B W S → writing.Ghosts B W E → ℕ → ℕ → B → E → Type 0
BinaryNotWritten number holds writes w r old e =
    (m : ℕ) × IsOneAbove w m r × NotWritten number holds writes (fixed_digits (2 ^ w) m r) old e

-- ---- read

-- For calls that may find a value: `IfFound` says that P holds for the value, if there is one. `OnNone` says that P
-- holds if there is none.
abbrev pub IfFound : {X E : Type 0} → Result (Option X) E → (X → Type 0) → Type 0
IfFound answer P = IfOk answer (λ found. IfSome found P)

abbrev pub OnNone : {X E : Type 0} → Result (Option X) E → Type 0 → Type 0
OnNone answer P = IfOk answer (λ found. IfNone found P)

module _ {W B S E : Type 0} (number : W → ℕ) (holds : holding.Ghosts B W S) (reads : reading.Ghosts B W S E) (w : ℕ) where
  -- Reads return words that form the number r. The first word isn't 0.
  pub record BeginsNonzero (old : B) (r : ℕ) (new : B) : Type 0 where
    pub words : List W
    pub given : ReadsReturn reads.reads old words new
    pub taken : holds.is_list → holds.words old ≡ words ++ holds.words new
    pub high : BeginsHigh (map number words)
    pub is : r ≡ number_from_digits (2 ^ w) (map number words)

  -- The words read form a number below `bound`, and the next read returns this answer instead of a word.
  abbrev pub BeginsAndStops : ℕ → B → Result (Option W) E → B → Type 0
  BeginsAndStops bound old answer new = (x : ℕ) × (last : B) × BeginsNonzero old x last × (x < bound) × ReadsAs holds reads last answer new

  -- An import in binary form gets no remainders head. Either all words are read, and there are too few. Or a read fails
  -- with this error.
  abbrev pub TooFew : ℕ → ℕ → B → CoderError B E → Type 0
  TooFew bound from old (Frontend rest) = (n : ℕ) × StopsAt number holds reads w bound from old n (Ok None) rest
  TooFew bound from old (Backend e) = (rest : B) × (n : ℕ) × StopsAt number holds reads w bound from old n (Err e) rest

  -- The read returns a word, and the word is 0.
  abbrev pub ReadsZero : B → B → Type 0
  ReadsZero old rest = (word : W) × (number word ≡ 0) × ReadsAs holds reads old (Ok (Some word)) rest

  -- An import gets no remainders head from words without leading zeros. The first word is 0, there are too few words,
  -- or a read fails with this error.
  abbrev pub NoStart : ℕ → B → CoderError B E → Type 0
  NoStart bound old (Frontend rest) = ReadsZero old rest ⊎ BeginsAndStops bound old (Ok None) rest
  NoStart bound old (Backend e) = (rest : B) × BeginsAndStops bound old (Err e) rest

  -- An import of remainders doesn't get both heads. The first word is missing or 0, its read fails, or the next words
  -- give no remainders head.
  abbrev pub NoHeads : ℕ → B → CoderError B E → Type 0
  NoHeads bound old (Frontend rest) =
      ReadsAs holds reads old (Ok None) rest
      ⊎ ReadsZero old rest
      ⊎ ((word : W) × (between : B) × (0 < number word) × ReadsAs holds reads old (Ok (Some word)) between × NoStart bound between (Frontend rest))
  NoHeads bound old (Backend e) =
      ((rest : B) × ReadsAs holds reads old (Err e) rest)
      ⊎ ((word : W) × (between : B) × (0 < number word) × ReadsAs holds reads old (Ok (Some word)) between × NoStart bound between (Backend e))

  -- An import of remainders gets both heads: the first word is the compressed head h, and the next words form the
  -- remainders head r.
  abbrev pub ReadsHeads : B → ℕ → ℕ → B → Type 0
  ReadsHeads old h r new = (word : W) × (between : B) × (number word ≡ h) × ReadsAs holds reads old (Ok (Some word)) between × BeginsNonzero between r new

-- ---- exports of a whole coder

-- An export fails. Either `whole` doesn't hold, and the error returns the unchanged coder. Or the backend refuses the
-- words with this error.
abbrev pub NotExported : {V E : Type 0} → Type 0 → V → (E → Type 0) → CoderError V E → Type 0
NotExported whole coder not_written (Frontend back) = (whole → ⊥) × (back ≡ coder)
NotExported whole coder not_written (Backend e) = whole × not_written e
