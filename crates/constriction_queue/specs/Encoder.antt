-- The abstract value of a range encoder, its pending words, and its run (interval in unbounded numbers). Lists of words
-- are in stack order: the word written last comes first.
use Rattle.std.specs.Prelude.{◌≡◌, ℕ, ◌+◌, ◌-◌, ◌*◌, ◌<◌, ◌≤◌, ◌^◌, List, [], ◌∷◌, ◌++◌, length, map, replicate, drop, Option, None, Some, Bool, false, if◌then◌else◌}
use Rattle.std.specs.Int.NonZero.{non_zero_usize_get}
use Rattle.constriction_base.specs.Steps.{Step, IsSizes, AreWords}
use Rattle.constriction_base.specs.declared.backends.reading.Holds as holding
use Rattle.constriction_queue.specs.declared.situation.EncoderSituation.{EncoderSituation}
use Rattle.constriction_queue.specs.declared.situation.EncoderSituation.TheVariants.{Normal, Inverted}
use Rattle.constriction_queue.specs.declared.situation.ReleasedWords.{ReleasedWords}
use Rattle.constriction_queue.specs.declared.step.Part.{Part}
use Rattle.constriction_queue.specs.declared.step.Shifted.{Shifted}
use Rattle.constriction_queue.specs.Range.{Run, cut, grown, narrowed_by, sealed}

-- The number whose digits in base `b` are the words. The first word of the list is the lowest digit.
abbrev pub number_of : ℕ → List ℕ → ℕ
number_of b [] = 0
number_of b (w ∷ ws) = number_of b ws * b + w

-- A list of `count` words: in writing order, `first` comes first, and every word after it equals `others`.
abbrev pub repeated_words : ℕ → ℕ → ℕ → List ℕ
repeated_words others count first = replicate (count - 1) others ++ first ∷ []

-- Returns `count` pending words, the first of them `first` in writing order. A carry is added to the words if `carry`
-- is true.
abbrev pub words_with_carry : ℕ → Bool → ℕ → ℕ → List ℕ
words_with_carry w carry count first = repeated_words (if carry then 0 else 2 ^ w - 1) count (if carry then first + 1 else first)

-- The pending words (outstanding words), which a carry may still change. In writing order, the first of them comes
-- first, and every word after it is all ones.
abbrev pub pending_of : {Word : Type 0} → (Word → ℕ) → ℕ → EncoderSituation Word → List ℕ
pending_of number w Normal = []
pending_of number w (Inverted count first) = repeated_words (2 ^ w - 1) (non_zero_usize_get count) (number first)

-- The situation fits the interval. If no word is pending, the interval ends below `2 ^ s`. If words are pending, the
-- interval ends at `2 ^ s` or above, and its length isn't the length before the first symbol. The first pending word
-- isn't all ones, so it can take a carry. The number of pending words plus 17 is below `2 ^ 64`, so a `usize` also
-- counts a seal of 16 words.
abbrev pub PartsFit : {Word : Type 0} → (Word → ℕ) → ℕ → ℕ → EncoderSituation Word → ℕ → ℕ → Type 0
PartsFit number w s Normal lower range = lower + range < 2 ^ s
PartsFit number w s (Inverted count first) lower range =
    (2 ^ s ≤ lower + range) × (number first + 1 < 2 ^ w) × (range + 1 < 2 ^ s) × (non_zero_usize_get count + 17 < 2 ^ 64)

-- The value of an encoder: its backend, the words written, the pending words (`held`), and the interval.
pub record Encoder (B : Type 0) : Type 0 where
  pub bulk : B
  pub words : List ℕ
  pub held : List ℕ
  pub lower : ℕ
  pub range : ℕ

-- The value of the encoder with this interval, backend and situation.
abbrev pub encoder_of : {Word B S : Type 0} → (Word → ℕ) → holding.Ghosts B Word S → ℕ → ℕ → ℕ → B → EncoderSituation Word → Encoder B
encoder_of number holds w lower range bulk situation =
    record { bulk = bulk; words = map number (holds.words bulk); held = pending_of number w situation; lower = lower; range = range }

-- The value of the encoder with the interval and the situation that a step returns, over this backend.
abbrev pub shifted_over : {Word State B S : Type 0} → (Word → ℕ) → (State → ℕ) → holding.Ghosts B Word S → ℕ → Shifted Word State → B → Encoder B
shifted_over number state holds w shifted bulk = encoder_of number holds w (state shifted.lower) (state shifted.range) bulk shifted.situation

-- The value of an encoder without symbols that writes after the words of a backend.
abbrev pub begun_over : {Word B S : Type 0} → (Word → ℕ) → holding.Ghosts B Word S → ℕ → B → Encoder B
begun_over number holds s bulk = record { bulk = bulk; words = map number (holds.words bulk); held = []; lower = 0; range = 2 ^ s - 1 }

-- The invariant of every encoder. Its sizes are allowed, and its words are the words of its backend. Its pending words
-- fit the interval (`PartsFit`). The interval's length is at least `2 ^ (s - w)`, and both numbers of the interval are
-- below `2 ^ s`.
pub record IsEncoder {Word B S : Type 0} (number : Word → ℕ) (holds : holding.Ghosts B Word S) (w s : ℕ) (e : Encoder B) : Type 0 where
  pub sizes : IsSizes w s
  pub words_are : e.words ≡ map number (holds.words e.bulk)
  pub situation : EncoderSituation Word
  pub held_is : e.held ≡ pending_of number w situation
  pub fits : PartsFit number w s situation e.lower e.range
  pub least : 2 ^ (s - w) ≤ e.range
  pub lower_fits : e.lower < 2 ^ s
  pub range_fits : e.range < 2 ^ s

-- The run of an encoder with these words (written and pending) and this interval.
abbrev pub run_of : ℕ → ℕ → List ℕ → ℕ → ℕ → Run
run_of w s words lower range = record { low = number_of (2 ^ w) words * 2 ^ s + lower; range = range; moves = length words }

-- Writing `owed` and replacing the situation and the interval by the primed ones applies `change` to the run. This
-- holds for every list of words written earlier.
abbrev pub ChangesRun : {Word : Type 0} → (Word → ℕ) → ℕ → ℕ → (Run → Run) → EncoderSituation Word → ℕ → ℕ → List ℕ → EncoderSituation Word → ℕ → ℕ → Type 0
ChangesRun number w s change situation lower range owed situation' lower' range' =
    (words : List ℕ) → run_of w s (pending_of number w situation' ++ (owed ++ words)) lower' range' ≡ change (run_of w s (pending_of number w situation ++ words) lower range)

-- The run of an encoder, from its words (written and pending) and its interval.
abbrev pub run_by : {B : Type 0} → ℕ → ℕ → Encoder B → Run
run_by w s e = run_of w s (e.held ++ e.words) e.lower e.range

-- The words that `into_compressed` would return for an encoder, in writing order.
abbrev pub sealed_by : {B : Type 0} → ℕ → ℕ → Encoder B → List ℕ
sealed_by w s e = sealed w s (run_by w s e)

-- The number of bits of the words that would be exported is below `2 ^ 64`, so it fits a `usize`.
abbrev pub SizesFit : {B : Type 0} → ℕ → ℕ → Encoder B → Type 0
SizesFit w s e = w * length (sealed_by w s e) < 2 ^ 64

-- Both encoders have the same interval and the same pending words.
pub record HasHeads {B : Type 0} (old new : Encoder B) : Type 0 where
  pub held : new.held ≡ old.held
  pub lower : new.lower ≡ old.lower
  pub range : new.range ≡ old.range

-- Both encoders have the same interval and pending words. The new one lacks the `count` words written last.
pub record Without {B : Type 0} (count : ℕ) (old new : Encoder B) : Type 0 where
  pub heads : HasHeads old new
  pub words : new.words ≡ drop count old.words

-- How many more symbols the encoder is sure to encode. Each symbol adds at most one pending word.
abbrev pub left_to_encode : {B : Type 0} → Encoder B → ℕ
left_to_encode e = 2 ^ 64 - 18 - length e.held

-- One more word can become pending: the number of pending words plus 18 is below `2 ^ 64`.
abbrev pub CanHoldMore : {Word : Type 0} → EncoderSituation Word → Type 0
CanHoldMore Normal = Unit {0}
CanHoldMore (Inverted count first) = non_zero_usize_get count + 18 < 2 ^ 64

-- ---- words that a call has to write

-- The words of a `ReleasedWords`, which are no longer pending.
abbrev pub released_of : {Word : Type 0} → (Word → ℕ) → Option (ReleasedWords Word) → List ℕ
released_of number None = []
released_of number (Some h) = repeated_words (number h.others) (non_zero_usize_get h.count) (number h.first)

-- The list of this word, or the empty list if there is no word.
abbrev pub word_of : {Word : Type 0} → (Word → ℕ) → Option Word → List ℕ
word_of number None = []
word_of number (Some w) = number w ∷ []

-- All words that a call has to write. In writing order, the words of `released` come first, then `top`, then `last`.
abbrev pub flushed_of : {Word : Type 0} → (Word → ℕ) → Option (ReleasedWords Word) → Option Word → Option Word → List ℕ
flushed_of number released top last = word_of number last ++ (word_of number top ++ released_of number released)

-- The words of a `ReleasedWords` in writing order.
abbrev pub pending_in_order : {Word : Type 0} → (Word → ℕ) → Option (ReleasedWords Word) → List ℕ
pending_in_order number None = []
pending_in_order number (Some h) = number h.first ∷ replicate (non_zero_usize_get h.count - 1) (number h.others)

-- The words of `flushed_of` in writing order.
abbrev pub flushed_in_order : {Word : Type 0} → (Word → ℕ) → Option (ReleasedWords Word) → Option Word → Option Word → List ℕ
flushed_in_order number released top last = pending_in_order number released ++ (word_of number top ++ word_of number last)

-- The step has to write the words `owed`. With them and with this situation and interval, the encoder has the run after
-- the step.
pub record Flushes {Word B : Type 0} (number : Word → ℕ) (w s : ℕ) (step : Step) (old : Encoder B) (owed : List ℕ) : Type 0 where
  pub are_words : AreWords w owed
  pub situation : EncoderSituation Word
  pub lower : ℕ
  pub range : ℕ
  pub lower_fits : lower < 2 ^ s
  pub fits : PartsFit number w s situation lower range
  pub is : run_of w s (pending_of number w situation ++ (owed ++ old.words)) lower range ≡ narrowed_by w s step (run_by w s old)

-- Writing the part's released words and switching to the part's situation and interval cuts the run by the step.
abbrev pub CutsRun : {Word State : Type 0} → (Word → ℕ) → (State → ℕ) → ℕ → ℕ → Step → EncoderSituation Word → State → State → Part Word State → Type 0
CutsRun number state w s step situation lower range part =
    ChangesRun number w s (cut step) situation (state lower) (state range) (released_of number part.released) part.situation (state part.lower) (state part.range)

-- Writing the shift's word, if there is a word, and switching to the shift's situation and interval renormalizes the
-- run (`grown`).
abbrev pub GrowsRun : {Word State : Type 0} → (Word → ℕ) → (State → ℕ) → ℕ → ℕ → EncoderSituation Word → State → State → Shifted Word State → Type 0
GrowsRun number state w s situation lower range shifted =
    ChangesRun number w s (grown w s) situation (state lower) (state range) (word_of number shifted.top) shifted.situation (state shifted.lower) (state shifted.range)

-- Read as one number, the new words are the old words plus 1 if `carry` is true, and otherwise the old words. The count
-- of words is the same.
pub record IsCarried (w : ℕ) (carry : Bool) (old new : List ℕ) : Type 0 where
  pub number : number_of (2 ^ w) new ≡ number_of (2 ^ w) old + (if carry then 1 else 0)
  pub len : length new ≡ length old
  pub fit : AreWords w new

-- The released words are the pending words with the carry added, for every list of words written earlier.
abbrev pub ReleasesPending : {Word : Type 0} → (Word → ℕ) → ℕ → Bool → EncoderSituation Word → Option (ReleasedWords Word) → Type 0
ReleasesPending number w carry situation released = (words : List ℕ) → AreWords w words → IsCarried w carry (pending_of number w situation ++ words) (released_of number released ++ words)

-- If no word is pending, there is no carry. Otherwise the first pending word isn't all ones, so it can take a carry.
abbrev pub CanCarry : {Word : Type 0} → (Word → ℕ) → ℕ → EncoderSituation Word → Bool → Type 0
CanCarry number w Normal carry = carry ≡ false
CanCarry number w (Inverted count first) carry = number first + 1 < 2 ^ w
