-- The possible results of a chain coder's encodes, decodes and precision changes over any backends. The definitions use
-- only the backends' ghost members: their words, `is_list`, the results of a read, the errors of a write and of
-- `prepare`, `makes_room`, and the room for words. In comments, a backend knows its words if its `is_list` holds.
use Rattle.std.specs.Prelude.{◌≡◌, ◌⊎◌, ⊤, ℕ, ◌+◌, ◌-◌, ◌*◌, ◌/◌, ◌%◌, ◌^◌, ◌<◌, ◌≤◌, List, length, map, Option, None, Some, Result, Ok, Err, IfOk, OnOk, IfErr}
use Rattle.constriction_base.specs.Readings.{ReadsAs}
use Rattle.constriction_base.specs.Steps.{Step}
use Rattle.constriction_base.specs.Windows.{IsInWindow, IsMovedOut}
use Rattle.constriction_base.specs.declared.backends.reading.Holds as holding
use Rattle.constriction_base.specs.declared.backends.reading.ReadWords as reading
use Rattle.constriction_base.specs.declared.backends.writing.WriteWords as writing
use Rattle.constriction_base.specs.declared.errors.CoderError.{CoderError}
use Rattle.constriction_base.specs.declared.errors.CoderError.TheVariants.{Frontend, Backend}
use Rattle.constriction_chain.specs.Chain.{ChainState, ChainValue, IsBroughtBelow, IsChainCoder, IsDecode, IsEncode, IsRemaindersHead, at_heads, least}
use Rattle.constriction_chain.specs.Walk.{IsQuantile, NeedsWord, OwesWord, QuantileReadBy}
use Rattle.constriction_chain.specs.declared.errors.BackendError.{BackendError}
use Rattle.constriction_chain.specs.declared.errors.BackendError.TheVariants.{Compressed, Remainders}
use Rattle.constriction_chain.specs.declared.errors.ChangePrecisionError.{ChangePrecisionError}
use Rattle.constriction_chain.specs.declared.errors.ChangePrecisionError.TheVariants.{Increase, Decrease}
use Rattle.constriction_chain.specs.declared.errors.DecoderFrontendError.{DecoderFrontendError}
use Rattle.constriction_chain.specs.declared.errors.DecoderFrontendError.TheVariants.{OutOfCompressedData}
use Rattle.constriction_chain.specs.declared.errors.EncoderFrontendError.{EncoderFrontendError}
use Rattle.constriction_chain.specs.declared.errors.EncoderFrontendError.TheVariants.{OutOfRemainders, ImpossibleSymbol}

-- ---- one side of a step

-- If r is below `enough`, a read of the backend returns a word, and v is r with this word appended. Otherwise v is r,
-- and the backend is unchanged.
abbrev pub RegainedBy : {W B S E : Type 0} → (W → ℕ) → reading.Ghosts B W S E → ℕ → ℕ → ℕ → B → ℕ → B → Type 0
RegainedBy {W} number reads w enough r old v new =
    ((enough ≤ r) × (v ≡ r) × (new ≡ old))
    ⊎ ((r < enough) × ((word : W) × (v ≡ r * 2 ^ w + number word) × reads.reads old (Ok (Some word)) new))

-- The number r is below `enough`. The read of a word to append to r returns `answer`.
abbrev pub Lacks : {W B S E : Type 0} → holding.Ghosts B W S → reading.Ghosts B W S E → ℕ → ℕ → B → Result (Option W) E → B → Type 0
Lacks holds reads enough r old answer new = (r < enough) × ReadsAs holds reads old answer new

-- Before an encode divides by the interval's length p, it extends the remainders head r to v by at most one word. The
-- quotient v / p is a remainders head. If the backend knows its words, bringing v below the window's end restores r.
pub record Regained {W B S E : Type 0} (number : W → ℕ) (holds : holding.Ghosts B W S) (reads : reading.Ghosts B W S E)
    (w s P p r : ℕ) (old : B) (v : ℕ) (new : B) : Type 0 where
  pub by : RegainedBy number reads w (p * least w s P) r old v new
  pub brought : holds.is_list
      → IsBroughtBelow w (least w s P) v (map number (holds.words new)) r (map number (holds.words old))
  pub window : IsRemaindersHead w s P (v / p)

-- A decode brings the number `gained` into the window of the remainders head by writing at most one word. The new head
-- is r. `gained` is the old head times the interval's length, plus the quantile's offset.
pub record Renormalized {W R S F : Type 0} (number : W → ℕ) (holds : holding.Ghosts R W S) (writes : writing.Ghosts R W F)
    (w s P gained : ℕ) (old : R) (r : ℕ) (new : R) : Type 0 where
  pub window : IsRemaindersHead w s P r
  pub gain : IsBroughtBelow w (least w s P) gained (map number (holds.words old)) r (map number (holds.words new))
  -- If no word is written, the backend is unchanged.
  pub untouched : gained < least w s P * 2 ^ w → new ≡ old
  pub room_used : writes.room old + length (map number (holds.words old)) ≤ writes.room new + length (map number (holds.words new))

-- The number `gained` is too large for the window, and the backend refuses its low word with this error. The backend's
-- words are unchanged.
pub record RenormalizeFailed {W R S F : Type 0} (holds : holding.Ghosts R W S) (writes : writing.Ghosts R W F)
    (w s P gained : ℕ) (old : R) (error : F) (new : R) : Type 0 where
  pub fails : writes.write_fails old error
  pub high : least w s P * 2 ^ w ≤ gained
  pub words : holds.words new ≡ holds.words old

-- A call brings the number `gained` into the window of the remainders head and returns the new head (`Renormalized`).
-- If the backend refuses the word to move out, the call returns the backend's error (`RenormalizeFailed`).
pub record Renormalizes {W V R S F : Type 0} (number : W → ℕ) (remainders_number : V → ℕ) (holds : holding.Ghosts R W S) (writes : writing.Ghosts R W F)
    (w s P gained : ℕ) (old : R) (answer : Result V F) (new : R) : Type 0 where
  pub ok : IfOk answer (λ r. Renormalized number holds writes w s P gained old (remainders_number r) new)
  pub err : IfErr answer (λ error. RenormalizeFailed holds writes w s P gained old error new)

-- An encode asks the backend for room for one word, if a quantile of P bits makes the head h too long. Otherwise the
-- backend is unchanged.
pub record Prepared {W B F : Type 0} (writes : writing.Ghosts B W F) (w P h : ℕ) (old new : B) : Type 0 where
  pub made : writes.makes_room → OwesWord w P h → 0 < writes.room new
  pub fails : (e : F) → writes.write_fails new e → writes.write_fails old e
  pub unasked : (OwesWord w P h → ⊥) → new ≡ old
  pub room_left : writes.room old ≤ writes.room new

-- An encode appends a quantile of P bits to the compressed head h. The new head is h'. If h has no room for P more
-- bits, a word is written.
pub record QuantileAppended {W B S F : Type 0} (number : W → ℕ) (holds : holding.Ghosts B W S) (writes : writing.Ghosts B W F)
    (w P h : ℕ) (old : B) (quantile h' : ℕ) (new : B) : Type 0 where
  pub walk : IsQuantile w P h' (map number (holds.words new)) quantile h (map number (holds.words old))
  pub untouched : (OwesWord w P h → ⊥) → new ≡ old
  pub room_used : writes.room old + length (holds.words old) ≤ writes.room new + length (holds.words new)

-- ---- decodes

-- A step fails. The heads are unchanged, and so are the words of the side that the step writes to. If the other backend
-- knows its words, the whole state is unchanged.
pub record Stays (is_list : Type 0) (written : ChainState → List ℕ) (old new : ChainState) : Type 0 where
  pub h : new.h ≡ old.h
  pub r : new.r ≡ old.r
  pub others : written new ≡ written old
  pub all : is_list → new ≡ old

module _ {W C R S E F : Type 0} (number : W → ℕ) (compressed_holds : holding.Ghosts C W S) (compressed_reads : reading.Ghosts C W S E)
    (remainders_holds : holding.Ghosts R W S) (remainders_writes : writing.Ghosts R W F) where
  -- A decode takes a quantile from the compressed head h, or from the next compressed word. Before it reads a word, it
  -- asks the remainders' backend for room for one word.
  pub record QuantileRead (w P h : ℕ) (old : C) (other : R) (quantile h' : ℕ) (new : C) (other' : R) : Type 0 where
    -- If the compressed backend knows its words, the quantile is the next one on these words.
    pub walk : compressed_holds.is_list
        → IsQuantile w P h (map number (compressed_holds.words old)) quantile h' (map number (compressed_holds.words new))
    -- The decode reads at most one word, and none if the head has enough bits.
    pub by : QuantileReadBy number compressed_reads w P h old quantile h' new
    pub below : quantile < 2 ^ P
    pub some : 0 < h'
    -- The decode only asks the remainders' backend for room, and doesn't ask if no word is needed.
    pub unasked : (NeedsWord w P h → ⊥) → other' ≡ other
    pub others : remainders_holds.words other' ≡ remainders_holds.words other
    pub fails : (e : F) → remainders_writes.write_fails other' e → remainders_writes.write_fails other e
    pub room_left : remainders_writes.room other ≤ remainders_writes.room other'
    pub roomy : remainders_writes.makes_room → (new ≡ old) ⊎ (0 < remainders_writes.room other')

  -- A decode gets no quantile: it needs a compressed word. Either the remainders' backend refuses room for one word, or
  -- the read returns no word or an error.
  abbrev pub Halts : ℕ → ℕ → ℕ → C → R → CoderError DecoderFrontendError (BackendError E F) → C → R → Type 0
  Halts w P h old other (Frontend e) new other' =
      NeedsWord w P h × ReadsAs compressed_holds compressed_reads old (Ok None) new
      × (remainders_writes.makes_room → 0 < remainders_writes.room other')
  Halts w P h old other (Backend (Compressed e)) new other' =
      NeedsWord w P h × ReadsAs compressed_holds compressed_reads old (Err e) new
      × (remainders_writes.makes_room → 0 < remainders_writes.room other')
  Halts w P h old other (Backend (Remainders e)) new other' =
      NeedsWord w P h × remainders_writes.prepare_fails other 1 e × (new ≡ old)

  -- The first half of a decode takes a quantile. The heads and the remainders' words are still unchanged.
  pub record ReadsQuantile (w s P : ℕ) (old : ChainValue C R) (quantile h' : ℕ) (new : ChainValue C R) : Type 0 where
    pub before : IsChainCoder number compressed_holds remainders_holds w s P old
    pub walk : compressed_holds.is_list → IsQuantile w P old.state.h old.state.compressed quantile h' new.state.compressed
    pub by : QuantileReadBy number compressed_reads w P old.state.h old.compressed quantile h' new.compressed
    pub below : quantile < 2 ^ P
    pub some : 0 < h'
    pub h : new.state.h ≡ old.state.h
    pub r : new.state.r ≡ old.state.r
    pub remainders : new.state.remainders ≡ old.state.remainders
    pub unasked : (NeedsWord w P old.state.h → ⊥) → new.remainders ≡ old.remainders
    pub fails : (e : F) → remainders_writes.write_fails new.remainders e → remainders_writes.write_fails old.remainders e
    pub room_left : remainders_writes.room old.remainders ≤ remainders_writes.room new.remainders
    pub roomy : remainders_writes.makes_room → (new.state ≡ old.state) ⊎ (0 < remainders_writes.room new.remainders)

  -- A decode fails before it asks the model for a symbol.
  pub record Halted (w s P : ℕ) (old : ChainValue C R) (e : CoderError DecoderFrontendError (BackendError E F)) (new : ChainValue C R) : Type 0 where
    -- The values before and after the call are coders.
    pub before : IsChainCoder number compressed_holds remainders_holds w s P old
    pub after : IsChainCoder number compressed_holds remainders_holds w s P new
    pub why : Halts w P old.state.h old.compressed old.remainders e new.compressed new.remainders
    pub stays : Stays compressed_holds.is_list (λ x. x.remainders) old.state new.state
    -- The remainders' backend loses no room.
    pub room_left : remainders_writes.room old.remainders ≤ remainders_writes.room new.remainders

  -- The first half of a decode, on heads and backends. The call takes a quantile and leaves the compressed head
  -- `after`, or the decode halts.
  pub record ReadsQuantileAtHeads {V : Type 0} (remainders_number : V → ℕ) (w s P : ℕ) (heads : W × V) (old : C) (other : R)
      (answer : Result W (CoderError DecoderFrontendError (BackendError E F))) (after : W) (new : C) (other' : R) : Type 0 where
    pub ok : IfOk answer (λ quantile. ReadsQuantile w s P
        (at_heads number remainders_number compressed_holds remainders_holds heads old other)
        (number quantile) (number after)
        (at_heads number remainders_number compressed_holds remainders_holds heads new other'))
    pub err : IfErr answer (λ e. Halted w s P
        (at_heads number remainders_number compressed_holds remainders_holds heads old other) e
        (at_heads number remainders_number compressed_holds remainders_holds heads new other'))

  -- A decode by the step e succeeds.
  pub record Decoded (w s : ℕ) (old : ChainValue C R) (e : Step) (new : ChainValue C R) : Type 0 where
    -- If the compressed backend knows its words, the states before and after satisfy `IsDecode`.
    pub decoded : compressed_holds.is_list → IsDecode w s e old.state new.state
    -- The clauses below describe the call by its reads, for any backend.
    pub quantile : ℕ
    pub from : e.left ≤ quantile
    pub below : quantile < e.left + e.p
    pub by : QuantileReadBy number compressed_reads w e.precision old.state.h old.compressed quantile new.state.h new.compressed
    pub gain : IsBroughtBelow w (least w s e.precision) (old.state.r * e.p + (quantile - e.left)) old.state.remainders
        new.state.r new.state.remainders
    -- A decode that neither reads nor writes a word leaves the remainders' backend unchanged.
    pub untouched : (NeedsWord w e.precision old.state.h → ⊥)
        → old.state.r * e.p + (quantile - e.left) < least w s e.precision * 2 ^ w → new.remainders ≡ old.remainders
    -- The call uses no more room than the words that it writes.
    pub room_used : remainders_writes.room old.remainders + length old.state.remainders
        ≤ remainders_writes.room new.remainders + length new.state.remainders

  -- A decode fails because the remainders' backend refuses a word. The compressed side loses at most one word. It loses
  -- none if `makes_room` holds.
  pub record RemaindersWriteFails (w s : ℕ) (old : ChainValue C R) (e : Step) (error : F) (new : ChainValue C R) : Type 0 where
    pub fails : remainders_writes.write_fails old.remainders error
    pub h : new.state.h ≡ old.state.h
    pub r : new.state.r ≡ old.state.r
    pub remainders : new.state.remainders ≡ old.state.remainders
    pub quantile : ℕ
    pub h' : ℕ
    pub from : e.left ≤ quantile
    pub below : quantile < e.left + e.p
    pub walk : compressed_holds.is_list → IsQuantile w e.precision old.state.h old.state.compressed quantile h' new.state.compressed
    pub by : QuantileReadBy number compressed_reads w e.precision old.state.h old.compressed quantile h' new.compressed
    pub high : least w s e.precision * 2 ^ w ≤ old.state.r * e.p + (quantile - e.left)
    pub kept : remainders_writes.makes_room → new.state ≡ old.state
    -- The remainders' backend loses no room.
    pub room_left : remainders_writes.room old.remainders ≤ remainders_writes.room new.remainders

  -- The possible results of a decode, once the model has returned the step e.
  abbrev pub DecodeAnswers : ℕ → ℕ → ChainValue C R → Step → Result (Unit {0}) (CoderError DecoderFrontendError (BackendError E F))
      → ChainValue C R → Type 0
  DecodeAnswers w s old e (Ok u) new = Decoded w s old e new
  DecodeAnswers w s old e (Err (Frontend x)) new = ⊥
  DecodeAnswers w s old e (Err (Backend (Compressed x))) new = ⊥
  DecodeAnswers w s old e (Err (Backend (Remainders x))) new = RemaindersWriteFails w s old e x new

  -- A decode by the step e, with its answer and the value of the coder afterwards.
  pub record DecodeCall (w s : ℕ) (old : ChainValue C R) (e : Step)
      (answer : Result (Unit {0}) (CoderError DecoderFrontendError (BackendError E F))) (new : ChainValue C R) : Type 0 where
    -- The values before and after the call are coders, whatever the answer is.
    pub before : IsChainCoder number compressed_holds remainders_holds w s e.precision old
    pub after : IsChainCoder number compressed_holds remainders_holds w s e.precision new
    pub outcome : DecodeAnswers w s old e answer new

-- ---- encodes

module _ {W C R S E F : Type 0} (number : W → ℕ) (compressed_holds : holding.Ghosts C W S) (compressed_writes : writing.Ghosts C W E)
    (remainders_holds : holding.Ghosts R W S) (remainders_reads : reading.Ghosts R W S F) where
  -- An encode by the step e succeeds.
  pub record Encoded (w s : ℕ) (old : ChainValue C R) (e : Step) (new : ChainValue C R) : Type 0 where
    -- If the remainders' backend knows its words, the states before and after satisfy `IsEncode`.
    pub encoded : remainders_holds.is_list → IsEncode w s e old.state new.state
    -- The clauses below describe the call by its reads, for any backend.
    pub v : ℕ
    pub by : RegainedBy number remainders_reads w (e.p * least w s e.precision) old.state.r old.remainders v new.remainders
    pub walk : IsQuantile w e.precision new.state.h new.state.compressed (e.left + v % e.p) old.state.h old.state.compressed
    pub r : new.state.r ≡ v / e.p
    -- An encode that writes no word leaves the compressed backend unchanged.
    pub untouched : (OwesWord w e.precision old.state.h → ⊥) → new.compressed ≡ old.compressed
    -- The call uses no more room than the words that it writes.
    pub room_used : compressed_writes.room old.compressed + length old.state.compressed
        ≤ compressed_writes.room new.compressed + length new.state.compressed

  -- An encode fails because the compressed backend refuses a word. Either it refuses room, and no word of the
  -- remainders is read. Or it refuses the write, after at most one word of the remainders is read.
  pub record CompressedWriteFails (w s : ℕ) (old : ChainValue C R) (e : Step) (error : E) (new : ChainValue C R) : Type 0 where
    pub owes : OwesWord w e.precision old.state.h
    pub h : new.state.h ≡ old.state.h
    pub r : new.state.r ≡ old.state.r
    pub compressed : new.state.compressed ≡ old.state.compressed
    pub why : (compressed_writes.prepare_fails old.compressed 1 error × (new.state ≡ old.state) × (new.remainders ≡ old.remainders))
        ⊎ ((compressed_writes.makes_room → ⊥) × compressed_writes.write_fails old.compressed error
        × ((v : ℕ) × RegainedBy number remainders_reads w (e.p * least w s e.precision) old.state.r old.remainders v new.remainders))
    -- The compressed backend loses no room.
    pub room_left : compressed_writes.room old.compressed ≤ compressed_writes.room new.compressed

  -- An encode fails because it needs a word of the remainders, and the read returns this answer instead. If the encode
  -- writes a compressed word, it has asked for room before the read.
  pub record FoundNoWord (w s : ℕ) (old : ChainValue C R) (e : Step) (answer : Result (Option W) F) (new : ChainValue C R) : Type 0 where
    pub short : old.state.r < e.p * least w s e.precision
    pub answered : ReadsAs remainders_holds remainders_reads old.remainders answer new.remainders
    pub stays : Stays remainders_holds.is_list (λ x. x.compressed) old.state new.state
    -- The compressed backend loses no room.
    pub room_left : compressed_writes.room old.compressed ≤ compressed_writes.room new.compressed
    pub roomy : compressed_writes.makes_room → OwesWord w e.precision old.state.h → 0 < compressed_writes.room new.compressed

  -- The possible results of an encode by the step e.
  abbrev pub EncodeAnswers : ℕ → ℕ → ChainValue C R → Step → Result (Unit {0}) (CoderError EncoderFrontendError (BackendError E F))
      → ChainValue C R → Type 0
  EncodeAnswers w s old e (Ok u) new = Encoded w s old e new
  EncodeAnswers w s old e (Err (Frontend OutOfRemainders)) new = FoundNoWord w s old e (Ok None) new
  EncodeAnswers w s old e (Err (Frontend ImpossibleSymbol)) new = ⊥
  EncodeAnswers w s old e (Err (Backend (Remainders x))) new = FoundNoWord w s old e (Err x) new
  EncodeAnswers w s old e (Err (Backend (Compressed x))) new = CompressedWriteFails w s old e x new

  -- An encode by the step e, with its answer and the value of the coder afterwards.
  pub record EncodeCall (w s : ℕ) (old : ChainValue C R) (e : Step)
      (answer : Result (Unit {0}) (CoderError EncoderFrontendError (BackendError E F))) (new : ChainValue C R) : Type 0 where
    -- The values before and after the call are coders, whatever the answer is.
    pub before : IsChainCoder number compressed_holds remainders_holds w s e.precision old
    pub after : IsChainCoder number compressed_holds remainders_holds w s e.precision new
    pub outcome : EncodeAnswers w s old e answer new

  -- An encode on heads and backends. The step's interval has the length `p` and begins at `left`. The call leaves the
  -- heads `after`. An error is that of an encode that leaves the coder with the heads before the call.
  pub record EncodesAtHeads {V : Type 0} (remainders_number : V → ℕ) (w s P : ℕ) (left p : W) (heads : W × V) (old : C) (other : R)
      (answer : Result (Unit {0}) (CoderError EncoderFrontendError (BackendError E F))) (after : W × V) (new : C) (other' : R) : Type 0 where
    pub ok : OnOk answer (EncodeCall w s
        (at_heads number remainders_number compressed_holds remainders_holds heads old other)
        (record { precision = P; left = number left; p = number p }) (Ok tt)
        (at_heads number remainders_number compressed_holds remainders_holds after new other'))
    pub err : IfErr answer (λ e. EncodeCall w s
        (at_heads number remainders_number compressed_holds remainders_holds heads old other)
        (record { precision = P; left = number left; p = number p }) (Err e)
        (at_heads number remainders_number compressed_holds remainders_holds heads new other'))

  -- An encode by a step never fails with `ImpossibleSymbol`.
  pub never_encoded : {w s : ℕ} {old new : ChainValue C R} {step : Step} (e : EncoderFrontendError) → e ≡ ImpossibleSymbol
      → EncodeCall w s old step (Err (Frontend e)) new → ⊥
  never_encoded OutOfRemainders is call = cc
  never_encoded ImpossibleSymbol is call = call.outcome

-- ---- errors that `maybe_exhausted` and `maybe_full` rule out

-- The error says that no compressed word is left, or that the remainders are full.
abbrev pub IsEndOfData : {E F : Type 0} → (F → Type 0) → CoderError DecoderFrontendError (BackendError E F) → Type 0
IsEndOfData is_lack_of_room (Frontend OutOfCompressedData) = ⊤
IsEndOfData is_lack_of_room (Backend (Compressed e)) = ⊥
IsEndOfData is_lack_of_room (Backend (Remainders e)) = is_lack_of_room e

-- The error says that no word of the remainders is left, or that the compressed words are full.
abbrev pub IsLackOfRoom : {E F : Type 0} → (E → Type 0) → CoderError EncoderFrontendError (BackendError E F) → Type 0
IsLackOfRoom is_lack_of_room (Frontend OutOfRemainders) = ⊤
IsLackOfRoom is_lack_of_room (Frontend ImpossibleSymbol) = ⊥
IsLackOfRoom is_lack_of_room (Backend (Compressed e)) = is_lack_of_room e
IsLackOfRoom is_lack_of_room (Backend (Remainders e)) = ⊥

-- `ImpossibleSymbol` never counts as a lack of room.
pub never_lack : (E F : Type 0) (is_lack_of_room : E → Type 0) (e : EncoderFrontendError) → e ≡ ImpossibleSymbol → IsLackOfRoom {F = F} is_lack_of_room (Frontend e) → ⊥
never_lack E F is_lack_of_room OutOfRemainders is lack = cc
never_lack E F is_lack_of_room ImpossibleSymbol is lack = lack

-- ---- changes of the precision

-- An increase of the precision turns the remainders head r into r', which is in the window from `bound`. Either nothing
-- changes, or the low word of r moves out.
abbrev pub RaisedTo : {W R S : Type 0} → (W → ℕ) → holding.Ghosts R W S → ℕ → ℕ → ℕ → R → ℕ → R → Type 0
RaisedTo number holds w bound r old r' new = IsInWindow w bound r'
    × (((r' ≡ r) × (map number (holds.words new) ≡ map number (holds.words old)))
    ⊎ IsMovedOut w r (map number (holds.words old)) r' (map number (holds.words new)))

-- An increase of the precision fails: the head r is at least `end`, and the backend refuses to take a word of the head.
abbrev pub RaiseRefused : {W R N M E : Type 0} → writing.Ghosts R W E → ℕ → ℕ → R → CoderError N (BackendError M E) → Type 0
RaiseRefused writes end r old (Frontend x) = ⊥
RaiseRefused writes end r old (Backend (Compressed x)) = ⊥
RaiseRefused writes end r old (Backend (Remainders x)) = (end ≤ r) × writes.write_fails old x

-- A decrease of the precision, by the reads: the remainders head gets a word if it is below `bound`. The compressed
-- side is unchanged.
abbrev pub IsLowered : {W C R S E : Type 0} → (W → ℕ) → reading.Ghosts R W S E → ℕ → ℕ → ChainValue C R → ChainValue C R → Type 0
IsLowered number reads w bound old new = (new.state.h ≡ old.state.h) × (new.compressed ≡ old.compressed)
    × RegainedBy number reads w bound old.state.r old.remainders new.state.r new.remainders

-- A decrease of the precision turns the remainders head r into r', which is in the window from `bound`. If the backend
-- knows its words, either nothing changes, or the next word moves in below r.
pub record LoweredTo {W R S E : Type 0} (number : W → ℕ) (holds : holding.Ghosts R W S) (reads : reading.Ghosts R W S E)
    (w bound r : ℕ) (old : R) (r' : ℕ) (new : R) : Type 0 where
  pub by : RegainedBy number reads w bound r old r' new
  pub window : IsInWindow w bound r'
  pub move : holds.is_list → ((r' ≡ r) × (map number (holds.words new) ≡ map number (holds.words old)))
      ⊎ IsMovedOut w r' (map number (holds.words new)) r (map number (holds.words old))

-- A decrease of the precision fails: the remainders head needs a word, and the read returns none or an error.
abbrev pub LowerRefused : {W R S M E : Type 0} → holding.Ghosts R W S → reading.Ghosts R W S E → ℕ → ℕ → R
    → CoderError EncoderFrontendError (BackendError M E) → Type 0
LowerRefused {R = R} holds reads enough r old (Frontend OutOfRemainders) = (r < enough) × ((new : R) × ReadsAs holds reads old (Ok None) new)
LowerRefused holds reads enough r old (Frontend ImpossibleSymbol) = ⊥
LowerRefused holds reads enough r old (Backend (Compressed x)) = ⊥
LowerRefused {R = R} holds reads enough r old (Backend (Remainders x)) = (r < enough) × ((new : R) × ReadsAs holds reads old (Err x) new)

-- A change of the precision from P to N fails: an increase if N is greater than P, and a decrease otherwise.
abbrev pub ChangeRefused : {W R S E F : Type 0} → holding.Ghosts R W S → reading.Ghosts R W S E → writing.Ghosts R W F → ℕ → ℕ → ℕ → ℕ → ℕ → R
    → ChangePrecisionError F E → Type 0
ChangeRefused holds reads writes w s P N r old (Increase e) = (P < N) × RaiseRefused writes (2 ^ (s - N)) r old e
ChangeRefused holds reads writes w s P N r old (Decrease e) = (N ≤ P) × LowerRefused holds reads (least w s N) r old e
