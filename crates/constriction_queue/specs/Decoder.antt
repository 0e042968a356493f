-- The abstract value of a range decoder, its invariant, and the quantile that it reads.
use Rattle.std.specs.Prelude.{◌≡◌, ℕ, ◌+◌, ◌-◌, ◌*◌, ◌/◌, ◌%◌, ◌<◌, ◌≤◌, ◌^◌, ◌⊎◌, Bool, true, false, IsTrue, List, [], ◌∷◌, ◌++◌, Some, None, Result, Ok, Err, map, drop, length, IfOk, IfErr, OnErr}
use Rattle.constriction_base.specs.Steps.{Step, IsSizes}
use Rattle.constriction_base.specs.declared.backends.reading.Holds as holding
use Rattle.constriction_base.specs.declared.backends.reading.ReadWords as reading
use Rattle.constriction_queue.specs.declared.reading.Placed.{Placed}
use Rattle.constriction_queue.specs.Range.{Run, IsAt, grown, initial, narrowed_by, number_of_first}

-- The value of a decoder: its backend, the remaining words, its interval, and its point. The point (code value) is the
-- number formed by the last `s / w` words read.
pub record Decoder (B : Type 0) : Type 0 where
  pub bulk : B
  pub words : List ℕ
  pub lower : ℕ
  pub range : ℕ
  pub point : ℕ

-- The value of the decoder with this interval, point and backend.
abbrev pub decoder_of : {Word B S : Type 0} → (Word → ℕ) → holding.Ghosts B Word S → ℕ → ℕ → ℕ → B → Decoder B
decoder_of number holds lower range point bulk = record { bulk = bulk; words = map number (holds.words bulk); lower = lower; range = range; point = point }

-- The value of the decoder whose point has this distance from the lower end of the interval, modulo `2 ^ s`.
abbrev pub decoder_at : {Word B S : Type 0} → (Word → ℕ) → holding.Ghosts B Word S → ℕ → ℕ → ℕ → ℕ → B → Decoder B
decoder_at number holds s lower range distance bulk = decoder_of number holds lower range ((distance + lower) % 2 ^ s) bulk

-- The value of the decoder with the interval and the distance that a step returns, over this backend.
abbrev pub placed_over : {Word State B S : Type 0} → (Word → ℕ) → (State → ℕ) → holding.Ghosts B Word S → ℕ → Placed State → B → Decoder B
placed_over number state holds s placed bulk = decoder_at number holds s (state placed.lower) (state placed.range) (state placed.distance) bulk

-- Returns the interval with this lower end and range, together with the distance of the point from the lower end.
abbrev pub placed_at : {State : Type 0} → State → State → State → Placed State
placed_at lower range distance = record { lower = lower; range = range; distance = distance }

-- The invariant of every decoder. Its sizes are allowed, and its words are the words of its backend. The interval's
-- length is at least `2 ^ (s - w)`. Both numbers of the interval and the point are below `2 ^ s`.
pub record IsDecoder {Word B S : Type 0} (number : Word → ℕ) (holds : holding.Ghosts B Word S) (w s : ℕ) (d : Decoder B) : Type 0 where
  pub sizes : IsSizes w s
  pub words_are : d.words ≡ map number (holds.words d.bulk)
  pub least : 2 ^ (s - w) ≤ d.range
  pub lower_fits : d.lower < 2 ^ s
  pub range_fits : d.range < 2 ^ s
  pub point_fits : d.point < 2 ^ s

-- The distance of the point from the lower end of the interval, modulo `2 ^ s`.
abbrev pub distance : {B : Type 0} → ℕ → Decoder B → ℕ
distance s d = (d.point + (2 ^ s - d.lower)) % 2 ^ s

-- The quantile at the point: the distance divided by `range / 2 ^ precision`, both rounded down.
abbrev pub quantile_read : {B : Type 0} → ℕ → ℕ → Decoder B → ℕ
quantile_read s precision d = distance s d / (d.range / 2 ^ precision)

-- The decoder has reached this run in the words: its interval, its point and its remaining words match the run.
abbrev pub StandsAt : {B : Type 0} → ℕ → ℕ → List ℕ → Run → Decoder B → Type 0
StandsAt w s words r d = IsAt w s words r d.lower d.range d.point d.words

-- The decoder stands at the initial run of the words, before the first symbol.
abbrev pub StandsAtStart : {B : Type 0} → ℕ → ℕ → List ℕ → Decoder B → Type 0
StandsAtStart w s words d = StandsAt w s words (initial s) d

-- For every list of words: if the old decoder has reached a run `r` in it, the new decoder has reached `next r`.
abbrev pub Follows : {B : Type 0} → ℕ → ℕ → (Run → Run) → Decoder B → Decoder B → Type 0
Follows w s next old new = (words : List ℕ) (r : Run) → StandsAt w s words r old → StandsAt w s words (next r) new

-- The symbol's part of the interval is shorter than `2 ^ (s - w)`, so the decoder has to read a word.
abbrev pub OwesRead : ℕ → ℕ → Step → ℕ → Type 0
OwesRead w s e range = range / 2 ^ e.precision * e.p < 2 ^ (s - w)

-- ---- reads

-- One read returns a word with the number `x`, or the read returns no word and `x` is 0.
abbrev pub WordRead : {Word E B S : Type 0} → (Word → ℕ) → reading.Ghosts B Word S E → B → ℕ → B → Type 0
WordRead {Word} number reads old x new = ((word : Word) × reads.reads old (Ok (Some word)) new × (x ≡ number word)) ⊎ (reads.reads old (Ok None) new × (x ≡ 0))

-- Successive reads return the words with these numbers, one word a read.
abbrev pub WordListRead : {Word E B S : Type 0} → (Word → ℕ) → reading.Ghosts B Word S E → B → List ℕ → B → Type 0
WordListRead number reads old [] new = new ≡ old
WordListRead {Word} {B = B} number reads old (x ∷ xs) new =
    (word : Word) × (between : B) × reads.reads old (Ok (Some word)) between × (x ≡ number word) × WordListRead number reads between xs new

-- Takes `x` as the next word of a point. The two `Bool`s state whether the words had ended before, and whether they
-- have ended after. If the words have ended after, `x` is 0. If they had ended before, no read is made.
abbrev pub PointWordRead : {Word E B S : Type 0} → (Word → ℕ) → reading.Ghosts B Word S E → B → Bool → ℕ → Bool → B → Type 0
PointWordRead {Word} number reads old false x false new = (word : Word) × reads.reads old (Ok (Some word)) new × (x ≡ number word)
PointWordRead number reads old true x false new = ⊥
PointWordRead number reads old false x true new = reads.reads old (Ok None) new × (x ≡ 0)
PointWordRead number reads old true x true new = (new ≡ old) × (x ≡ 0)

-- The point is the number formed by the first `s / w` words of the old backend, with zero words past the end. The new
-- backend has the words after them.
abbrev pub HasPoint : {Word B S : Type 0} → (Word → ℕ) → holding.Ghosts B Word S → ℕ → ℕ → B → ℕ → B → Type 0
HasPoint number holds w s old point new =
    (point ≡ number_of_first (2 ^ w) (s / w) (map number (holds.words old))) × (map number (holds.words new) ≡ drop (s / w) (map number (holds.words old)))

-- The reads that form a point. Either `s / w` reads return words, or fewer reads return words and the next read, the
-- last one, returns no word. The point is the number formed by these words, with zero words for the missing words.
abbrev pub ReadsPoint : {Word E B S : Type 0} → (Word → ℕ) → reading.Ghosts B Word S E → ℕ → ℕ → B → ℕ → B → Type 0
ReadsPoint {B = B} number reads w s old point new =
    (xs : List ℕ) × (((length xs ≡ s / w) × WordListRead number reads old xs new)
    ⊎ ((length xs < s / w) × ((end : B) × WordListRead number reads old xs end × reads.reads end (Ok None) new)))
    × (point ≡ number_of_first (2 ^ w) (s / w) xs)

-- A read of a word for a point returns the error `e`. Fewer than `s / w` reads come before, and each returns a word.
abbrev pub RefusesPoint : {Word E B S : Type 0} → (Word → ℕ) → reading.Ghosts B Word S E → ℕ → ℕ → B → E → B → Type 0
RefusesPoint {B = B} number reads w s old e new =
    (xs : List ℕ) × (length xs < s / w) × ((before : B) × WordListRead number reads old xs before × reads.reads before (Err e) new)

-- The decoder has decoded no symbol, and it reads its point from the backend `first`.
abbrev pub BeginsOver : {Word E B S : Type 0} → (Word → ℕ) → reading.Ghosts B Word S E → ℕ → ℕ → B → Decoder B → Type 0
BeginsOver number reads w s first d = (d.lower ≡ 0) × (d.range + 1 ≡ 2 ^ s) × ReadsPoint number reads w s first d.point d.bulk

-- If the old decoder has reached a run `r` and its next words are `taken`, the new decoder has reached `next r`. The
-- words after `taken` are the remaining words of the new decoder.
abbrev pub LeadsOn : {B : Type 0} → ℕ → ℕ → (Run → Run) → List ℕ → Decoder B → Decoder B → Type 0
LeadsOn w s next taken old new =
    (ws : List ℕ) (r : Run) (rest : List ℕ) → IsAt w s ws r old.lower old.range old.point (taken ++ rest) → IsAt w s ws (next r) new.lower new.range new.point rest

-- The decoder goes from each run `r` to `next r`. It makes exactly one read if `owes` holds, and otherwise no read.
abbrev pub ReadsOn : {Word E B S : Type 0} → (Word → ℕ) → reading.Ghosts B Word S E → ℕ → ℕ → (Run → Run) → Type 0 → Decoder B → Decoder B → Type 0
ReadsOn number reads w s next owes old new =
    (owes × ((x : ℕ) × WordRead number reads old.bulk x new.bulk × LeadsOn w s next (x ∷ []) old new))
    ⊎ ((owes → ⊥) × (new.bulk ≡ old.bulk) × LeadsOn w s next [] old new)

-- The decoder takes the step. It makes exactly one read if it has to read a word, and otherwise no read.
abbrev pub ReadsStep : {Word E B S : Type 0} → (Word → ℕ) → reading.Ghosts B Word S E → ℕ → ℕ → Step → Decoder B → Decoder B → Type 0
ReadsStep number reads w s step old new = ReadsOn number reads w s (narrowed_by w s step) (OwesRead w s step old.range) old new

-- A call applies the change `next` of the run to an interval and a distance, over this backend. The call makes exactly
-- one read if `owes` holds, and otherwise no read.
pub record ChangesByReading {Word State B S E : Type 0} (number : Word → ℕ) (state : State → ℕ) (holds : holding.Ghosts B Word S) (rules : reading.Ghosts B Word S E)
    (w s : ℕ) (next : Run → Run) (owes : Type 0) (old : Placed State) (bulk : B) (answer : Result (Placed State) E) (bulk' : B) : Type 0 where
  -- The new interval has at least the length `2 ^ (s - w)`.
  pub wide : IfOk answer (λ now. 2 ^ (s - w) ≤ state now.range)
  -- If `is_list` holds and the decoder stands at a run in the words, it stands at the changed run after the call.
  pub list : holds.is_list → IfOk answer (λ now. Follows w s next (placed_over number state holds s old bulk) (placed_over number state holds s now bulk'))
  -- If `is_list` holds, an error leaves the words unchanged.
  pub kept : holds.is_list → OnErr answer (holds.words bulk' ≡ holds.words bulk)
  -- In terms of reads, the call makes exactly one read if `owes` holds, and otherwise no read.
  pub reads : IfOk answer (λ now. ReadsOn number rules w s next owes (placed_over number state holds s old bulk) (placed_over number state holds s now bulk'))
  -- An error is the error of this one read.
  pub err : IfErr answer (λ e. owes × rules.reads bulk (Err e) bulk')

-- A call renormalizes the interval (`grown`). The call makes one read if the range is below `2 ^ (s - w)`, and
-- otherwise no read.
abbrev pub GrowsByReading : {Word State B S E : Type 0} → (Word → ℕ) → (State → ℕ) → holding.Ghosts B Word S → reading.Ghosts B Word S E → ℕ → ℕ
    → Placed State → B → Result (Placed State) E → B → Type 0
GrowsByReading number state holds rules w s old bulk answer bulk' =
    ChangesByReading number state holds rules w s (grown w s) (state old.range < 2 ^ (s - w)) old bulk answer bulk'

-- A call narrows the interval by the step (`narrowed_by`). The call makes one read if the decoder has to read a word
-- (`OwesRead`), and otherwise no read.
abbrev pub NarrowsByReading : {Word State B S E : Type 0} → (Word → ℕ) → (State → ℕ) → holding.Ghosts B Word S → reading.Ghosts B Word S E → ℕ → ℕ
    → Step → Placed State → B → Result (Placed State) E → B → Type 0
NarrowsByReading number state holds rules w s step old bulk answer bulk' =
    ChangesByReading number state holds rules w s (narrowed_by w s step) (OwesRead w s step (state old.range)) old bulk answer bulk'

-- All encoded symbols may have been decoded. The backend's `maybe_exhausted` returns `true`. In addition, no symbol was
-- decoded, or the point is as close to the lower end of the interval as after a seal.
abbrev pub MayBeExhausted : {B : Type 0} → ℕ → ℕ → (B → Bool) → Decoder B → Type 0
MayBeExhausted w s seems_exhausted d =
    IsTrue (seems_exhausted d.bulk) × ((d.range + 1 ≡ 2 ^ s) ⊎ (distance s d + 1 < 2 * 2 ^ (s - w)))
