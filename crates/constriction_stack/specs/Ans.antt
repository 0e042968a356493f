-- The stack coder: range asymmetric numeral systems (rANS, by Jarek Duda), as in `AnsCoder` of the Rust crate
-- `constriction`. The definitions up to `exported` are about numbers and lists. The others are about coders over
-- backends. `w` and `s` are the numbers of bits of a word and of a head.
use Rattle.std.specs.Prelude.{◌≡◌, ℕ, ◌+◌, ◌-◌, ◌*◌, ◌/◌, ◌%◌, ◌<◌, ◌≤◌, ◌^◌, ◌⊎◌, List, [], ◌∷◌, ◌++◌, Option, Some, None, Result, Ok, Err, MatchResult, OnOk, OnErr, IfErr, map, nat_lt, if◌then◌else◌, length}
use Rattle.std.specs.Int.Digits.{digits_of}
use Rattle.constriction_base.specs.Steps.{Step, IsSizes, AreWords}
use Rattle.constriction_base.specs.declared.backends.reading.Holds as holding
use Rattle.constriction_base.specs.declared.backends.reading.ReadWords as reading
use Rattle.constriction_base.specs.declared.backends.writing.WriteWords as writing

-- The state of a coder: the head (the state `x` of rANS), and the stack of words below it, top word first.
pub record AnsState : Type 0 where
  pub head : ℕ
  pub words : List ℕ

-- The empty state: head 0 and no words.
abbrev pub empty : AnsState
empty = record { head = 0; words = [] }

-- The head is below `2 ^ s`, and each word is below `2 ^ w`.
pub record IsState (w s : ℕ) (x : AnsState) : Type 0 where
  pub fits : x.head < 2 ^ s
  pub are_words : AreWords w x.words

-- The state is normalized: its head is at least `2 ^ (s - w)`, or no words are below the head.
pub record IsNormalized (w s : ℕ) (x : AnsState) : Type 0 where
  pub state : IsState w s x
  pub full : (2 ^ (s - w) ≤ x.head) ⊎ (x.words ≡ [])

-- Moves the top word into the head if the head is below `2 ^ (s - w)` and a word is left (renormalization).
abbrev pub refilled : ℕ → ℕ → ℕ → List ℕ → AnsState
refilled w s head [] = record { head = head; words = [] }
refilled w s head (word ∷ words) =
    if nat_lt head (2 ^ (s - w)) then record { head = head * 2 ^ w + word; words = words }
    else record { head = head; words = word ∷ words }

-- The head's quantile, which is its remainder by `2 ^ precision`, lies in the interval of the step.
pub record IsNext (e : Step) (x : AnsState) : Type 0 where
  pub from : e.left ≤ x.head % 2 ^ e.precision
  pub below : x.head % 2 ^ e.precision < e.left + e.p

-- The head after a pop and before a refill. A head `a * 2 ^ precision + left + t` becomes `a * p + t`.
abbrev pub pop_head : Step → AnsState → ℕ
pop_head e x = x.head / 2 ^ e.precision * e.p + (x.head % 2 ^ e.precision - e.left)

-- The state after the step's symbol is decoded: the decoding step of rANS, followed by a refill.
abbrev pub pop : ℕ → ℕ → Step → AnsState → AnsState
pop w s e x = refilled w s (pop_head e x) x.words

-- The step's symbol can be decoded from the old state, and the new state is the state after that.
abbrev pub IsPop : ℕ → ℕ → Step → AnsState → AnsState → Type 0
IsPop w s e old new = IsNext e old × (new ≡ pop w s e old)

-- Encoding the step's symbol leads from the old state to the new state. The new state is the normalized state from
-- which a pop takes this step and leaves the old state. For a normalized old state, the law `one_push` states that
-- exactly one new state exists.
pub record IsPush (w s : ℕ) (e : Step) (old new : AnsState) : Type 0 where
  pub valid : IsNormalized w s new
  pub holds : IsNext e new
  pub back : pop w s e new ≡ old

-- ---- words of a state

-- Moves words into the head while the head is below `2 ^ (s - w)` and a word is left. An import of compressed words
-- starts with head 0.
abbrev pub filled : ℕ → ℕ → ℕ → List ℕ → AnsState
filled w s head [] = record { head = head; words = [] }
filled w s head (word ∷ words) =
    if nat_lt head (2 ^ (s - w)) then filled w s (head * 2 ^ w + word) words
    else record { head = head; words = word ∷ words }

-- The exported words of a state, top word first (the Rust crate's compressed form). These are the head's digits in base
-- `2 ^ w` without leading zeros, and then the words below the head.
abbrev pub exported : ℕ → AnsState → List ℕ
exported w x = digits_of (2 ^ w) x.head ++ x.words

-- ---- coders: a word's number is told by `number`, what a backend says of its words by `holds`, and of its writes and
-- its reads by `writes` and `reads`

-- The value of a coder: its state, and the backend that holds the words below the head.
pub record AnsValue (B : Type 0) : Type 0 where
  pub state : AnsState
  pub backend : B

-- The state with this head above the words that a backend holds.
abbrev pub state_of : {W B S : Type 0} → (W → ℕ) → holding.Ghosts B W S → ℕ → B → AnsState
state_of number holds head backend = record { head = head; words = map number (holds.words backend) }

-- The value of the coder with this head over this backend.
abbrev pub value_of : {W B S : Type 0} → (W → ℕ) → holding.Ghosts B W S → ℕ → B → AnsValue B
value_of number holds head backend = record { state = state_of number holds head backend; backend = backend }

-- The invariant of every coder. Its sizes are allowed, and its head is below `2 ^ s`. The words below its head are the
-- words of its backend.
pub record IsCoder {W B S : Type 0} (number : W → ℕ) (holds : holding.Ghosts B W S) (w s : ℕ) (coder : AnsValue B) : Type 0 where
  pub sizes : IsSizes w s
  pub head_fits : coder.state.head < 2 ^ s
  pub words_are : coder.state.words ≡ map number (holds.words coder.backend)

-- The head has no room for the step, so a push has to write a word first.
abbrev pub OwesWord : ℕ → Step → AnsState → Type 0
OwesWord s e x = e.p ≤ x.head / 2 ^ (s - e.precision)

-- The words after a push. If the head has no room for the step, its low word is written first.
abbrev pub words_after : ℕ → ℕ → Step → AnsState → List ℕ
words_after w s e x = if nat_lt (x.head / 2 ^ (s - e.precision)) e.p then x.words else x.head % 2 ^ w ∷ x.words

-- The head after a pop is below `2 ^ (s - w)`, so the coder reads a word if one is left.
abbrev pub OwesRead : ℕ → ℕ → Step → AnsState → Type 0
OwesRead w s e x = pop_head e x < 2 ^ (s - w)

-- ---- coders over backends whose words are known only by reading, such as iterators

-- A refill by a read. If the head is below `2 ^ (s - w)`, the coder makes one read and moves the word read into the
-- head. If the read finds no word, the head is unchanged. A larger head is unchanged, and no read is made.
abbrev pub RefillsBy : {W E B : Type 0} → (W → ℕ) → (B → Result (Option W) E → B → Type 0) → ℕ → ℕ → ℕ → B → ℕ → B → Type 0
RefillsBy {W} {E} {B} number reads w s head old new_head new =
    ((2 ^ (s - w) ≤ head) × (new_head ≡ head) × (new ≡ old))
    ⊎ ((head < 2 ^ (s - w)) × (new_head ≡ head) × reads old (Ok None) new)
    ⊎ ((head < 2 ^ (s - w)) × ((word : W) × (new_head ≡ head * 2 ^ w + number word) × reads old (Ok (Some word)) new))

-- Suppose that `is_list` holds for the backend. A successful refill leads to the `refilled` state of the old head and
-- words, and a failed refill leaves the words unchanged.
abbrev pub RefillsList : {W V E B S : Type 0} → (W → ℕ) → (V → ℕ) → holding.Ghosts B W S → ℕ → ℕ → V → B → Result V E → B → Type 0
RefillsList number head_number holds w s head old result new =
    holds.is_list → MatchResult result
    (λ new_head. refilled w s (head_number head) (map number (holds.words old)) ≡ state_of number holds (head_number new_head) new)
    (λ _. holds.words new ≡ holds.words old)

-- A successful call refills the head by at most one read (`RefillsBy`). An error is the error of this read, and comes
-- only if the head is below `2 ^ (s - w)`.
abbrev pub RefillsByReads : {W V E B : Type 0} → (W → ℕ) → (V → ℕ) → (B → Result (Option W) E → B → Type 0) → ℕ → ℕ → V → B → Result V E → B → Type 0
RefillsByReads number head_number reads w s head old result new =
    MatchResult result
    (λ new_head. RefillsBy number reads w s (head_number head) old (head_number new_head) new)
    (λ e. (head_number head < 2 ^ (s - w)) × reads old (Err e) new)

-- ---- the possible results of a coder's calls, over any backend

-- The possible results of encoding one symbol with this step.
pub record EncodeCall {W B E S : Type 0} (number : W → ℕ) (holds : holding.Ghosts B W S) (writes : writing.Ghosts B W E) (w s : ℕ) (old : AnsValue B) (step : Step) (answer : Result (Unit {0}) E) (new : AnsValue B) : Type 0 where
  -- The values before and after the call satisfy the coder's invariant, also after an error.
  pub before : IsCoder number holds w s old
  pub after : IsCoder number holds w s new
  -- On success, if the old state is normalized, the new state is the push of the step.
  pub pushed : OnOk answer (IsNormalized w s old.state → IsPush w s step old.state new.state)
  -- On success, a word is written if and only if the head has no room for the step.
  pub words : OnOk answer (new.state.words ≡ words_after w s step old.state)
  -- On success, the room shrinks by at most the number of words written.
  pub room_used : OnOk answer (writes.room old.backend + length old.state.words ≤ writes.room new.backend + length new.state.words)
  -- If no word has to be written, the backend is unchanged.
  pub owes : (OwesWord s step old.state → ⊥) → new.backend ≡ old.backend
  -- An error leaves the head and the words unchanged.
  pub kept : OnErr answer (new.state ≡ old.state)
  -- An error comes only if a word has to be written. It comes from `prepare`, or, if `prepare` makes no room, from the
  -- write.
  pub error : IfErr answer (λ e. OwesWord s step old.state × (writes.prepare_fails old.backend 1 e ⊎ ((writes.makes_room → ⊥) × writes.write_fails old.backend e)))

-- The possible results of encoding a step onto a head and a backend. On success, there is a new head. After an error,
-- the head is unchanged.
abbrev pub EncodesOnto : {W B E S H : Type 0} → (W → ℕ) → holding.Ghosts B W S → writing.Ghosts B W E → ℕ → ℕ → (H → ℕ) → H → B → Step → Result H E → B → Type 0
EncodesOnto number holds writes w s head_number head old step result new =
    MatchResult result
    (λ new_head. EncodeCall number holds writes w s (value_of number holds (head_number head) old) step (Ok tt) (value_of number holds (head_number new_head) new))
    (λ e. EncodeCall number holds writes w s (value_of number holds (head_number head) old) step (Err e) (value_of number holds (head_number head) new))

-- `EncodesOnto` holds for the step with this precision, and with the numbers of `left` and `p`.
abbrev pub PushesOnto : {W B E S H : Type 0} → (W → ℕ) → (H → ℕ) → holding.Ghosts B W S → writing.Ghosts B W E → ℕ → ℕ → ℕ → H → H → H → B → Result H E → B → Type 0
PushesOnto number head_number holds writes w s precision left p head old result new =
    EncodesOnto number holds writes w s head_number head old
    (record { precision = precision; left = head_number left; p = head_number p }) result new

-- The possible results of decoding one symbol with this step.
pub record DecodeCall {W B E S : Type 0} (number : W → ℕ) (holds : holding.Ghosts B W S) (reads : reading.Ghosts B W S E) (w s : ℕ) (old : AnsValue B) (step : Step) (answer : Result (Unit {0}) E) (new : AnsValue B) : Type 0 where
  -- The values before and after the call satisfy the coder's invariant, also after an error.
  pub before : IsCoder number holds w s old
  pub after : IsCoder number holds w s new
  -- The head's quantile lies in the interval of the step.
  pub is_next : IsNext step old.state
  -- On success, if `is_list` holds for the backend, the new state is the pop of the old state, normalized or not.
  pub popped : OnOk answer (holds.is_list → new.state ≡ pop w s step old.state)
  -- On success, the coder makes one read if the head after the pop is below `2 ^ (s - w)`, and otherwise no read.
  pub refilled : OnOk answer (RefillsBy number reads.reads w s (pop_head step old.state) old.backend new.state.head new.backend)
  -- An error leaves the head unchanged. If `is_list` holds for the backend, it also leaves the words unchanged.
  pub head : OnErr answer (new.state.head ≡ old.state.head)
  pub kept : OnErr answer (holds.is_list → new.state ≡ old.state)
  -- An error comes only if the coder has to make a read, and it is the error of that read.
  pub error : IfErr answer (λ e. OwesRead w s step old.state × reads.reads old.backend (Err e) new.backend)
