-- Writing all words that a call has to write (the owed words), and the words of the backend after a refused write. In
-- each list of words, the word that is written last and read next comes first.
use Rattle.std.specs.Prelude.{◌≡◌, ◌⊎◌, ℕ, ◌+◌, ◌*◌, ◌^◌, ◌<◌, ◌≤◌, List, [], ◌∷◌, ◌++◌, Result, Ok, Err, drop, length, map, OnOk, OnErr, IfErr, IsOk, MatchResult}
use Rattle.constriction_base.specs.Digits.{fixed_digits}
use Rattle.constriction_base.specs.declared.backends.reading.Holds as holding
use Rattle.constriction_base.specs.declared.backends.writing.WriteWords as writing

-- The new words are the old ones with the owed words written so far in front. At least one owed word isn't written.
pub record IsBegun (owed old new : List ℕ) : Type 0 where
  pub later : List ℕ
  pub written : List ℕ
  pub missing : 0 < length later
  pub parts : owed ≡ later ++ written
  pub is : new ≡ written ++ old

-- Successful writes of words with these numbers, the last of the list first, lead from the old backend to the new one.
abbrev pub WriteTrace : {W B E : Type 0} → (W → ℕ) → writing.Ghosts B W E → List ℕ → B → B → Type 0
WriteTrace number writes [] old new = new ≡ old
WriteTrace {W = W} {B = B} number writes (n ∷ ns) old new =
    (between : B) × WriteTrace number writes ns old between × ((word : W) × (number word ≡ n) × writes.writes between word (Ok tt) new)

-- Writes of the owed words stop at a word whose write is refused. The writes before it lead from the old backend to
-- `last`, and the refused write leads from there to the new one.
pub record StopsAtWrite {W B E S : Type 0} (number : W → ℕ) (holds : holding.Ghosts B W S) (writes : writing.Ghosts B W E) (owed : List ℕ) (old : B) (e : E) (new : B) : Type 0 where
  pub later : List ℕ
  pub word : W
  pub written : List ℕ
  pub parts : owed ≡ later ++ (number word ∷ written)
  pub last : B
  pub led : WriteTrace number writes written old last
  pub refused : writes.writes last word (Err e) new
  -- The backend's `write_fails` allows the error for that write, and the words stay.
  pub fails : writes.write_fails last e
  pub kept : holds.words last ≡ holds.words new

-- A successful request for room for `count` words keeps the words, doesn't lower the room, and adds no write errors.
-- If `makes_room` holds, the room is then at least `count`.
pub record IsPrepared {W B E S : Type 0} (holds : holding.Ghosts B W S) (writes : writing.Ghosts B W E) (count : ℕ) (old new : B) : Type 0 where
  pub words : holds.words new ≡ holds.words old
  pub room : writes.room old ≤ writes.room new
  pub made : writes.makes_room → count ≤ writes.room new
  pub fails : (e : E) → writes.write_fails new e → writes.write_fails old e

-- Requests for room make no room on this backend. The request for all owed words succeeds, and then a write is refused.
abbrev pub RefusesWrite : {W B E S : Type 0} → (W → ℕ) → holding.Ghosts B W S → writing.Ghosts B W E → List ℕ → B → E → B → Type 0
RefusesWrite {B = B} number holds writes owed old e new =
    (writes.makes_room → ⊥) × ((ready : B) × IsPrepared holds writes (length owed) old ready × StopsAtWrite number holds writes owed ready e new)

-- `RefusesWrite` for a caller that doesn't see the backend right after the refused write. That backend is `left`, with
-- the owed words written so far in front of the old ones.
abbrev pub RefusedWrite : {W B E S : Type 0} → (W → ℕ) → holding.Ghosts B W S → writing.Ghosts B W E → List ℕ → B → E → Type 0
RefusedWrite {B = B} number holds writes owed old e =
    (left : B) × IsBegun owed (map number (holds.words old)) (map number (holds.words left)) × RefusesWrite number holds writes owed old e left

-- A call writes all owed words. If a write is refused, the call stops there, and the words written so far stay.
pub record WritesAll {W B E S : Type 0} (number : W → ℕ) (holds : holding.Ghosts B W S) (writes : writing.Ghosts B W E) (owed : List ℕ) (old : B) (answer : Result (Unit {0}) E) (new : B) : Type 0 where
  -- All owed words lie on the old ones.
  pub words : OnOk answer (map number (holds.words new) ≡ owed ++ map number (holds.words old))
  -- Each owed word is written by its own write.
  pub in_turn : OnOk answer (WriteTrace number writes owed old new)
  -- The room shrinks by at most the number of owed words.
  pub room_used : OnOk answer (writes.room old ≤ writes.room new + length owed)
  -- After an error, the owed words written so far lie on the old ones. The old room is below the number of owed words.
  pub begun : OnErr answer (IsBegun owed (map number (holds.words old)) (map number (holds.words new)))
  pub short : OnErr answer (writes.room old < length owed)
  -- The error comes from the write at which the call stops.
  pub error : IfErr answer (λ e. StopsAtWrite number holds writes owed old e new)

-- A call asks for room for all owed words and then writes them.
pub record Appends {W B E S : Type 0} (number : W → ℕ) (holds : holding.Ghosts B W S) (writes : writing.Ghosts B W E) (owed : List ℕ) (old : B) (answer : Result (Unit {0}) E) (new : B) : Type 0 where
  pub words : OnOk answer (map number (holds.words new) ≡ owed ++ map number (holds.words old))
  -- Each owed word is written by its own write, after one request for room.
  pub in_turn : OnOk answer (0 < length owed → (ready : B) × IsPrepared holds writes (length owed) old ready × WriteTrace number writes owed ready new)
  pub room_used : OnOk answer (writes.room old ≤ writes.room new + length owed)
  -- If no word is owed, the call succeeds and the backend is unchanged.
  pub untouched : owed ≡ [] → IsOk answer × (new ≡ old)
  pub begun : OnErr answer (IsBegun owed (map number (holds.words old)) (map number (holds.words new)))
  pub short : OnErr answer (writes.room old < length owed)
  -- Where a request makes room, an error leaves the words unchanged.
  pub kept : writes.makes_room → OnErr answer (holds.words new ≡ holds.words old)
  -- The error is that of the request, before any write. If requests make no room, it may be that of a write.
  pub error : IfErr answer (λ e. (writes.prepare_fails old (length owed) e × (holds.words new ≡ holds.words old))
      ⊎ RefusesWrite number holds writes owed old e new)

-- A call can't write all owed words, and the caller no longer has the backend. The old room is below the number of owed
-- words. The backend refuses the request for room. If requests make no room, it may instead refuse a later write.
abbrev pub NotWritten : {W B E S : Type 0} → (W → ℕ) → holding.Ghosts B W S → writing.Ghosts B W E → List ℕ → B → E → Type 0
NotWritten number holds writes owed old e =
    (writes.room old < length owed)
    × (writes.prepare_fails old (length owed) e ⊎ RefusedWrite number holds writes owed old e)

-- ---- the lowest words of a head: an error comes with the number of words that were written before it

-- A call writes the lowest `count` words of a head, or stops at a refused write.
abbrev pub WritesHead : {W B E S : Type 0} → (W → ℕ) → holding.Ghosts B W S → writing.Ghosts B W E → ℕ → ℕ → ℕ → B → Result (Unit {0}) (ℕ × E) → B → Type 0
WritesHead number holds writes w count head old answer new =
    MatchResult answer
    (λ done. WritesAll number holds writes (fixed_digits (2 ^ w) count head) old (Ok done) new)
    (λ refused. WritesAll number holds writes (fixed_digits (2 ^ w) count head) old (Err refused.1) new)

-- A call asks for room for them and then writes them.
abbrev pub AppendsHead : {W B E S : Type 0} → (W → ℕ) → holding.Ghosts B W S → writing.Ghosts B W E → ℕ → ℕ → ℕ → B → Result (Unit {0}) (ℕ × E) → B → Type 0
AppendsHead number holds writes w count head old answer new =
    MatchResult answer
    (λ done. Appends number holds writes (fixed_digits (2 ^ w) count head) old (Ok done) new)
    (λ refused. Appends number holds writes (fixed_digits (2 ^ w) count head) old (Err refused.1) new)

-- An error of that call: no word was written; or, where a request for room makes none, a write was refused.
abbrev pub RefusesHead : {W B E S : Type 0} → (W → ℕ) → holding.Ghosts B W S → writing.Ghosts B W E → ℕ → ℕ → ℕ → B → ℕ × E → B → Type 0
RefusesHead number holds writes w count head old refused new =
    (refused.0 ≡ 0) ⊎ RefusesWrite number holds writes (fixed_digits (2 ^ w) count head) old refused.1 new

-- The old words lie below those that were written: all `count`, or those before an error.
abbrev pub LeavesBelow : {W B E S : Type 0} → holding.Ghosts B W S → ℕ → B → Result (Unit {0}) (ℕ × E) → B → Type 0
LeavesBelow holds count old answer new =
    MatchResult answer
    (λ _. drop count (holds.words new) ≡ holds.words old)
    (λ refused. drop refused.0 (holds.words new) ≡ holds.words old)

-- The highest set bit of n stands right above m words of w bits: n has m * w + 1 bits without leading zeros.
pub record IsOneAbove (w m n : ℕ) : Type 0 where
  pub from : 2 ^ (m * w) ≤ n
  pub below : n < 2 ^ (m * w + 1)
