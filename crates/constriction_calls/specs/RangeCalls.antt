-- Contracts of the range coder's calls: what each call does with the caller's encoder or decoder and its buffer, and
-- when it returns each error.
use Rattle.std.specs.Prelude.{◌≡◌, ◌↔◌, ℕ, zero, suc, ◌+◌, ◌-◌, ◌%◌, ◌<◌, ◌≤◌, ◌^◌, List, [], ◌++◌, Result, OnErr, OnOk, length, map, min, reverse, drop, take}
use Rattle.constriction_base.specs.Models.{Item, AreKnown}
use Rattle.constriction_queue.specs.Decoder.{Decoder}
use Rattle.constriction_queue.specs.Encoder.{run_of, repeated_words}
use Rattle.constriction_queue.specs.Range.{IsAt, Run, sealed, initial}
use Rattle.constriction_queue.specs.SelfDelimiting.{SelfDelimits}
use Rattle.constriction_queue.specs.States.{IsPosition}
use Rattle.constriction_queue.specs.Symbols.{FindsAll, MayEnd, NarrowsAll}
use Rattle.constriction_inputs.specs.Buffers.{Appended}
use Rattle.constriction_inputs.specs.Coded.{AsksFit, Coded, items}
use Rattle.constriction_inputs.specs.Refusals.{Asks, Otherwise, NoRefusal, NoMemoryOrSpace, NoMemoryOrInvalid}
use Rattle.constriction_inputs.specs.declared.refusal.Refusal.{Refusal}
use Rattle.constriction_inputs.specs.declared.refusal.Refusal.TheVariants.{ImpossibleSymbol, InvalidData, NoMemory, NoSpace, WrongLength}
use Rattle.constriction_words.specs.declared.natural.Natural as numbers
use Rattle.constriction_calls.specs.declared.range.parts.EncoderParts.{EncoderParts}
use Rattle.constriction_calls.specs.declared.range.parts.DecoderParts.{DecoderParts}

-- ---- encoders
-- The words that an encoder holds back, the last one first. The first pending word is `first`.
-- In every later pending word all bits are 1.
abbrev pub pending_of_parts : ℕ → ℕ → ℕ → List ℕ
pending_of_parts w zero first = []
pending_of_parts w (suc count) first = repeated_words (2 ^ w - 1) (suc count) first

-- The number of pending words and the first of them fit the interval. Without pending words, `first` is 0, and the
-- interval ends below 2^s. With pending words, the interval reaches 2^s, and adding a carry to `first` doesn't overflow.
-- Then the number of pending words plus 17 is below 2^64, so that the words of a seal can be counted too.
abbrev pub ValidPending : ℕ → ℕ → ℕ → ℕ → ℕ → ℕ → Type 0
ValidPending w s zero first lower range = (first ≡ 0) × (lower + range < 2 ^ s)
ValidPending w s (suc count) first lower range =
    (2 ^ s ≤ lower + range) × (first + 1 < 2 ^ w) × (range + 1 < 2 ^ s) × (suc count + 17 < 2 ^ 64)

-- The numbers that the caller keeps are those of a range encoder.
pub record ValidEncoder {Word State : Type 0} (number : Word → ℕ) (state : State → ℕ) (w s : ℕ) (e : EncoderParts Word State) : Type 0 where
  -- The interval is at least 2^(s - w) long.
  pub least : 2 ^ (s - w) ≤ state e.range
  -- The pending words fit the interval.
  pub fit : ValidPending w s e.held (number e.first) (state e.lower) (state e.range)

-- The run of an encoder that has written the words `written`.
-- A run is an interval of unbounded numbers, and the number of words written or held back.
abbrev pub run_of_parts : {Word State : Type 0} → (Word → ℕ) → (State → ℕ) → ℕ → ℕ → EncoderParts Word State → List Word → Run
run_of_parts number state w s e written =
    run_of w s (pending_of_parts w e.held (number e.first) ++ map number (reverse written)) (state e.lower) (state e.range)

-- The run of an encoder that has written the words of a stack, the last one first.
abbrev pub run_over : {Word State : Type 0} → (Word → ℕ) → (State → ℕ) → ℕ → ℕ → EncoderParts Word State → List Word → Run
run_over number state w s e words = run_of w s (pending_of_parts w e.held (number e.first) ++ map number words) (state e.lower) (state e.range)

-- The numbers are those of an encoder that can encode `count` more symbols.
-- Even if each symbol adds a pending word, the number of pending words plus 17 stays below 2^64.
pub record CanEncode {Word State : Type 0} (number : Word → ℕ) (state : State → ℕ) (w s : ℕ) (e : EncoderParts Word State) (count : ℕ) : Type 0 where
  pub is : ValidEncoder number state w s e
  pub few : e.held + count + 17 < 2 ^ 64

-- Encoding the items leads from the old encoder and its `len` words to the new encoder and its `new_len` words.
-- The new words are appended to the words in use, and nothing else in the buffer changes.
pub record IsEncodedBy {Word State S : Type 0} (number : Word → ℕ) (state : State → ℕ) (w s : ℕ) (items : List (Item S))
    (old : EncoderParts Word State) (buffer : List Word) (len : ℕ) (new : EncoderParts Word State) (new_buffer : List Word) (new_len : ℕ) : Type 0 where
  pub narrowed : NarrowsAll w s items (run_of_parts number state w s old (take len buffer)) (run_of_parts number state w s new (take new_len new_buffer))
  pub is : ValidEncoder number state w s new
  pub added : List Word
  pub appended : Appended buffer len added new_buffer new_len

-- An encoder that has encoded the items has written `needed` words in total, but the buffer is shorter.
pub record TooShortForEncoder {Word State S : Type 0} (number : Word → ℕ) (state : State → ℕ) (w s : ℕ) (items : List (Item S))
    (old : EncoderParts Word State) (buffer : List Word) (len needed : ℕ) : Type 0 where
  pub less : length buffer < needed
  pub new : EncoderParts Word State
  pub words : List Word
  pub narrowed : NarrowsAll w s items (run_of_parts number state w s old (take len buffer)) (run_of_parts number state w s new words)
  pub is : ValidEncoder number state w s new
  pub count : needed ≡ length words

-- The number of words that the error `NoSpace` reports: `count`, or 2^64 - 1 if `count` is larger.
abbrev pub count_needed : ℕ → ℕ
count_needed count = min count (2 ^ 64 - 1)

-- An encoder that a caller keeps, and its buffer with the number of words in use.
pub record RangeBuffers (Word State : Type 0) : Type 0 where
  pub encoder : EncoderParts Word State
  pub words : List Word
  pub len : ℕ

-- Makes one value of an encoder, its buffer, and the number of words in use.
abbrev pub range_buffers : {Word State : Type 0} → EncoderParts Word State → List Word → ℕ → RangeBuffers Word State
range_buffers encoder words len = record { encoder = encoder; words = words; len = len }

-- The encoder has encoded no symbols.
abbrev pub IsNew : {Word State : Type 0} → (Word → ℕ) → (State → ℕ) → ℕ → ℕ → EncoderParts Word State → Type 0
IsNew number state w s e = ValidEncoder number state w s e × (run_of_parts number state w s e [] ≡ initial s)

-- Encoding the items narrows the run `old` to the run of an encoder with these numbers, which has written `words`.
pub record Narrowed {Word State S : Type 0} (number : Word → ℕ) (state : State → ℕ) (w s : ℕ) (items : List (Item S)) (old : Run)
    (words : List Word) (new : EncoderParts Word State) : Type 0 where
  pub narrowed : NarrowsAll w s items old (run_of_parts number state w s new words)
  pub is : ValidEncoder number state w s new

-- The contract of an encode call with `count` items. `old` and `new` are the encoder and its buffer before and after
-- the call.
pub record RangeEncodesList {Word State : Type 0} (number : Word → ℕ) (state : State → ℕ) (w s precision : ℕ) (coded : Coded) (count : ℕ)
    (old new : RangeBuffers Word State) (answer : Result (Unit {0}) Refusal) : Type 0 where
  -- The call encodes the items in order.
  pub put : OnOk answer (IsEncodedBy number state w s (items precision coded) old.encoder old.words old.len new.encoder new.words new.len)
  -- The call checks in this order: the words in use are within the buffer, the arguments make items, the encoder can
  -- count the items, each model has an entry for its symbol, and the buffer can hold the words in use and pending words.
  pub asked : Asks WrongLength (old.len ≤ length old.words) (AsksFit precision coded
      (Asks InvalidData (CanEncode number state w s old.encoder count) (Asks ImpossibleSymbol (AreKnown (items precision coded))
      (Asks (NoSpace (count_needed (old.len + old.encoder.held))) (old.len + old.encoder.held ≤ length old.words)
      (Otherwise (NoMemoryOrSpace (TooShortForEncoder number state w s (items precision coded) old.encoder old.words old.len))))))) answer
  pub kept : OnErr answer (new ≡ old)

-- `RangeEncodesList` with the numbers and sizes in bits of two types: of words and of interval ends. The encoder, the
-- buffer and the number of words in use come first as they are before the call, and then as they are after it.
abbrev pub RangeEncodesListBy : {Word State : Type 0} → numbers.Ghosts Word → numbers.Ghosts State → ℕ → Coded → ℕ
    → EncoderParts Word State → List Word → ℕ → EncoderParts Word State → List Word → ℕ → Result (Unit {0}) Refusal → Type 0
RangeEncodesListBy word state precision coded count encoder words len new_encoder new_words new_len answer =
    RangeEncodesList word.number state.number word.BITS state.BITS precision coded count (range_buffers encoder words len) (range_buffers new_encoder new_words new_len) answer

-- The words are those of the run, completed with a seal.
abbrev pub IsSealed : ℕ → ℕ → Run → List ℕ → Type 0
IsSealed w s r words = words ≡ sealed w s r

-- The words are those of the run, completed with a self-delimiting seal: any words may follow them.
abbrev pub IsSelfSealed : ℕ → ℕ → Run → List ℕ → Type 0
IsSelfSealed w s r words = IsSealed w s r words × SelfDelimits w s r words

-- A buffer of `size` words has to hold `count` words. The call checks this before it asks for memory.
-- So `NoSpace` comes only if the buffer is too short, and `NoMemory` only if it is long enough.
abbrev pub RoomFirst : ℕ → ℕ → Refusal → Type 0
RoomFirst size count (NoSpace needed) = (size < count) × (needed ≡ count_needed count)
RoomFirst size count NoMemory = count ≤ size
RoomFirst size count other = ⊥

-- The contract of a seal call. It appends words, so that `ends` relates the encoder's run to all words in use.
pub record RangeSeals {Word State : Type 0} (number : Word → ℕ) (state : State → ℕ) (w s : ℕ) (ends : Run → List ℕ → Type 0)
    (old new : RangeBuffers Word State) (answer : Result (Unit {0}) Refusal) : Type 0 where
  pub words : OnOk answer (ends (run_of_parts number state w s old.encoder (take old.len old.words)) (map number (take new.len new.words)))
  pub appended : OnOk answer ((added : List Word) × Appended old.words old.len added new.words new.len)
  -- The call checks first that the words in use are within the buffer, then that the numbers are those of an encoder.
  pub asked : Asks WrongLength (old.len ≤ length old.words) (Asks InvalidData (ValidEncoder number state w s old.encoder)
      (Otherwise (RoomFirst (length old.words) (length (sealed w s (run_of_parts number state w s old.encoder (take old.len old.words))))))) answer
  pub kept : OnErr answer (new ≡ old)

-- `RangeSeals` with the numbers and sizes in bits of two types: of words and of interval ends. `ends` takes the sizes
-- first. The call leaves the encoder as it is.
abbrev pub RangeSealsBy : {Word State : Type 0} → numbers.Ghosts Word → numbers.Ghosts State → (ℕ → ℕ → Run → List ℕ → Type 0)
    → EncoderParts Word State → List Word → ℕ → List Word → ℕ → Result (Unit {0}) Refusal → Type 0
RangeSealsBy word state ends encoder words len new_words new_len answer =
    RangeSeals word.number state.number word.BITS state.BITS (ends word.BITS state.BITS) (range_buffers encoder words len) (range_buffers encoder new_words new_len) answer

-- ---- decoders
-- The numbers are those of a range decoder: the interval is at least 2^(s - w) long, and the point lies in it.
pub record ValidDecoder {State : Type 0} (state : State → ℕ) (w s : ℕ) (d : DecoderParts State) : Type 0 where
  pub least : 2 ^ (s - w) ≤ state d.range
  pub inside : (state d.point + (2 ^ s - state d.lower)) % 2 ^ s < state d.range

-- The decoder has the numbers `d`, and the words that it has yet to read are the buffer's words from `d.pos` on.
pub record IsRead {State B : Type 0} (state : State → ℕ) (buffer : List ℕ) (d : DecoderParts State) (decoder : Decoder B) : Type 0 where
  pub lower : decoder.lower ≡ state d.lower
  pub range : decoder.range ≡ state d.range
  pub point : decoder.point ≡ state d.point
  pub words : decoder.words ≡ drop d.pos buffer

-- The numbers `d` belong to a decoder that has read `words` and narrowed its interval to the run `r`.
-- The words still to read are the buffer's words from position `d.pos` on. The words before that position may differ
-- from the buffer's, because the caller may pass any numbers for the decoder.
abbrev pub StandsOver : {State : Type 0} → (State → ℕ) → ℕ → ℕ → List ℕ → List ℕ → Run → DecoderParts State → Type 0
StandsOver state w s buffer words r d = IsAt w s words r (state d.lower) (state d.range) (state d.point) (drop d.pos buffer)

-- The numbers `d` belong to a decoder that has read the buffer's own words and narrowed its interval to the run `r`.
abbrev pub DecoderAt : {Word State : Type 0} → (Word → ℕ) → (State → ℕ) → ℕ → ℕ → List Word → Run → DecoderParts State → Type 0
DecoderAt number state w s words r d = StandsOver state w s (map number words) (map number words) r d

-- For all words and runs that fit the old decoder, decoding the items leads from the old decoder to the new one.
abbrev pub LeadsBy : {State : Type 0} → (State → ℕ) → ℕ → ℕ → List ℕ → List (Item ℕ) → DecoderParts State → DecoderParts State → Type 0
LeadsBy state w s buffer items old new = (words : List ℕ) (run : Run) → StandsOver state w s buffer words run old
    → (last : Run) × FindsAll w s words items run last × StandsOver state w s buffer words last new

-- No `count` symbols can be decoded from the decoder's position on.
abbrev pub NoListFromParts : {State : Type 0} → (State → ℕ) → ℕ → ℕ → List ℕ → (List ℕ → List (Item ℕ)) → ℕ → DecoderParts State → Type 0
NoListFromParts state w s buffer items count old = (words others : List ℕ) (run last : Run) → StandsOver state w s buffer words run old
    → FindsAll w s words (items others) run last → length others ≡ count → ⊥

-- The contract of a decode call, which fills a list with decoded symbols. `old` and `new` are the decoder before and
-- after the call.
pub record RangeDecodesList {State : Type 0} (state : State → ℕ) (w s precision : ℕ) (coded : List ℕ → Coded) (buffer : List ℕ)
    (old new : DecoderParts State) (old_symbols new_symbols : List ℕ) (answer : Result (Unit {0}) Refusal) : Type 0 where
  pub taken : OnOk answer (LeadsBy state w s buffer (items precision (coded new_symbols)) old new)
  pub within : OnOk answer ((new.pos ≤ length buffer) × (length new_symbols ≡ length old_symbols))
  -- The call checks in this order: the position is within the words, the arguments make models, and the numbers are
  -- those of a decoder.
  pub asked : Asks WrongLength (old.pos ≤ length buffer) (AsksFit precision (coded old_symbols) (Asks InvalidData (ValidDecoder state w s old)
      (Otherwise (NoMemoryOrInvalid (NoListFromParts state w s buffer (λ symbols. items precision (coded symbols)) (length old_symbols) old))))) answer
  pub kept : OnErr answer ((new ≡ old) × (new_symbols ≡ old_symbols))

-- The contract of the call that makes a decoder of words: the decoder stands before the first symbol.
pub record RangeBegins {Word State : Type 0} (number : Word → ℕ) (state : State → ℕ) (w s : ℕ) (words : List Word) (new : DecoderParts State) : Type 0 where
  pub stands : DecoderAt number state w s words (initial s) new
  pub within : new.pos ≤ length words

-- The contract of a seek call. `pos` is the number of words that an encoder had written or held back at the position
-- to seek. `lower` and `range` are its interval there.
pub record RangeSeeks {Word State : Type 0} (number : Word → ℕ) (state : State → ℕ) (w s : ℕ) (words : List Word) (pos : ℕ) (lower range : State)
    (old new : DecoderParts State) (answer : Result (Unit {0}) Refusal) : Type 0 where
  pub stands : OnOk answer ((there : Run) → IsPosition s there pos (state lower) (state range) → DecoderAt number state w s words there new)
  pub within : OnOk answer (new.pos ≤ length words)
  -- The call checks first that the position is within the words, then that the interval is at least 2^(s - w) long.
  pub asked : Asks WrongLength (pos ≤ length words) (Asks InvalidData (2 ^ (s - w) ≤ state range) (Otherwise NoRefusal)) answer
  pub kept : OnErr answer (new ≡ old)

-- The contract of the test for the end. It sets 1 if the words may have ended at the decoder's position, and 0 if not.
pub record RangeMayEnd {State : Type 0} (state : State → ℕ) (w s : ℕ) (buffer : List ℕ) (decoder : DecoderParts State) (old new : ℕ)
    (answer : Result (Unit {0}) Refusal) : Type 0 where
  pub ended : OnOk answer ((words : List ℕ) (there : Run) → StandsOver state w s buffer words there decoder → (new ≡ 1) ↔ MayEnd w s words there)
  pub one_or_none : OnOk answer (new ≤ 1)
  -- The call checks first that the position is within the words, then that the numbers are those of a decoder.
  pub asked : Asks WrongLength (decoder.pos ≤ length buffer) (Asks InvalidData (ValidDecoder state w s decoder) (Otherwise NoRefusal)) answer
  pub kept : OnErr answer (new ≡ old)
