-- Sequences of reads of a backend, and the head that a coder forms from the words.
use Rattle.std.specs.Prelude.{◌≡◌, ℕ, zero, suc, ◌<◌, ◌≤◌, ◌^◌, ⊤, Bool, List, [], ◌∷◌, ◌++◌, Option, None, Some, Result, Ok, Err, MatchBool, MatchResult, map}
use Rattle.std.specs.Int.Digits.{number_from_digits, number_from_digits_after}
use Rattle.constriction_base.specs.Backends.{Reads}
use Rattle.constriction_base.specs.Steps.{Trace}
use Rattle.constriction_base.specs.declared.backends.reading.Holds as holding
use Rattle.constriction_base.specs.declared.backends.reading.ReadWords as reading

-- No read of the backend is ever refused.
abbrev pub NeverRefused : {W E B : Type 0} → (B → Result (Option W) E → B → Type 0) → Type 0
NeverRefused {W} {E} {B} reads = (old : B) (e : E) (new : B) → reads old (Err e) new → ⊥

-- At most `count` reads lead from the old backend to the new one. There are fewer reads only if a read fails: it is the
-- last.
abbrev pub ReadsUpTo : {W E B : Type 0} → (B → Result (Option W) E → B → Type 0) → ℕ → B → B → Type 0
ReadsUpTo reads zero old new = new ≡ old
ReadsUpTo {W} {E} {B} reads (suc count) old new =
    (answer : Result (Option W) E) × (between : B) × reads old answer between
    × MatchResult answer (λ read. ReadsUpTo reads count between new) (λ e. new ≡ between)

-- The word that is read first, if there is one, isn't 0.
abbrev pub BeginsHigh : List ℕ → Type 0
BeginsHigh [] = ⊤
BeginsHigh (v ∷ vs) = 0 < v

-- Reads return these words one after another, and lead from the old backend to the new one.
abbrev pub ReadsReturn : {W E B : Type 0} → (B → Result (Option W) E → B → Type 0) → B → List W → B → Type 0
ReadsReturn reads old words new = Trace (λ word before after. reads before (Ok (Some word)) after) words old new

-- Reads return words, the first of them not 0, and the head is the number that they form.
pub record Imports {W E B : Type 0} (number : W → ℕ) (reads : B → Result (Option W) E → B → Type 0) (w : ℕ) (old : B) (head : ℕ) (new : B) : Type 0 where
  pub words : List W
  pub given : ReadsReturn reads old words new
  pub high : BeginsHigh (map number words)
  pub is : head ≡ number_from_digits (2 ^ w) (map number words)

-- ---- by a backend's rules for reads

-- A read obeys the backend's `reads`. Where `is_list` holds, the read also obeys `Reads` on the backend's words.
abbrev pub ReadsAs : {W B E S : Type 0} → holding.Ghosts B W S → reading.Ghosts B W S E → B → Result (Option W) E → B → Type 0
ReadsAs holds reads old answer new = reads.reads old answer new × (holds.is_list → Reads (holds.words old) answer (holds.words new))

-- Reads return words, and each word moves in below a number, as its new lowest word. This turns `from` into `n`.
pub record MovesIn {W B E S : Type 0} (number : W → ℕ) (holds : holding.Ghosts B W S) (reads : reading.Ghosts B W S E) (w from : ℕ) (old : B) (n : ℕ) (new : B) : Type 0 where
  pub words : List W
  pub given : ReadsReturn reads.reads old words new
  -- Where `is_list` holds, the reads take these words off the front of the backend's list.
  pub taken : holds.is_list → holds.words old ≡ words ++ holds.words new
  pub is : n ≡ number_from_digits_after (2 ^ w) from (map number words)

-- Words move in below a number, which turns `from` into `n`. The number `n` is below the bound, and the next read
-- returns `answer`.
pub record StopsAt {W B E S : Type 0} (number : W → ℕ) (holds : holding.Ghosts B W S) (reads : reading.Ghosts B W S E) (w bound from : ℕ) (old : B) (n : ℕ) (answer : Result (Option W) E) (new : B) : Type 0 where
  pub last : B
  pub moved : MovesIn number holds reads w from old n last
  pub low : n < bound
  pub read : ReadsAs holds reads last answer new

-- Words move into a head while it is below the bound and a word is left. The answer is the new head with a flag: `true`
-- if the head is at least the bound, `false` if the words end first. If a read is refused, the answer is its error.
abbrev pub Fills : {W B E S H : Type 0} → (W → ℕ) → (H → ℕ) → holding.Ghosts B W S → reading.Ghosts B W S E → ℕ → ℕ → H → B → Result (H × Bool) E → B → Type 0
Fills number head_number holds reads w bound head old answer new =
    MatchResult answer
    (λ found. MatchBool found.1
    (MovesIn number holds reads w (head_number head) old (head_number found.0) new × (bound ≤ head_number found.0))
    (StopsAt number holds reads w bound (head_number head) old (head_number found.0) (Ok None) new))
    (λ e. (n : ℕ) × StopsAt number holds reads w bound (head_number head) old n (Err e) new)
