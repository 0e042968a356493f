-- Words that are written one after another, and writes that are refused.
use Rattle.std.specs.Prelude.{◌≡◌, ℕ, zero, suc, ◌+◌, ◌-◌, ◌*◌, ◌/◌, ◌%◌, ◌<◌, ◌≤◌, List, [], ◌∷◌, ◌++◌, Result, Ok, Err, length, map}
use Rattle.std.proofs.Common.{◌∙◌, refl, sym, ap, subst, arith, inl, inr, append_assoc, append-nil}
use Rattle.std.proofs.lemmas.Bool.{cases_lt}
use Rattle.std.proofs.lemmas.Nat.{div-mul-add, mod-mul-add}
use Rattle.constriction_base.specs.Digits.{fixed_digits}
use Rattle.constriction_base.specs.Writing.{Appends, IsBegun, IsPrepared, NotWritten, RefusesWrite, StopsAtWrite, WritesAll, WriteTrace}
use Rattle.constriction_base.specs.declared.backends.reading.Holds as holding
use Rattle.constriction_base.specs.declared.backends.writing.WriteWords as writing

-- one digit less is left where the lowest was written
pub fixed_less : (b count n : ℕ) (ws : List ℕ) → 0 < count → fixed_digits b (count - 1) (n / b) ++ (n % b ∷ ws) ≡ fixed_digits b count n ++ ws
fixed_less b zero n ws some = absurd (omega arith)
fixed_less b (suc count) n ws some =
    let less : suc count - 1 ≡ count = omega arith in
    rw less (sym (append_assoc (fixed_digits b count (n / b)) (n % b ∷ []) ws))

-- the lowest digit goes to the words behind
pub fixed_next : (b m n : ℕ) (ws : List ℕ) → fixed_digits b (suc m) n ++ ws ≡ fixed_digits b m (n / b) ++ (n % b ∷ ws)
fixed_next b m n ws = append_assoc (fixed_digits b m (n / b)) (n % b ∷ []) ws

-- one more word moves into a number
pub fixed_push : (b m n v : ℕ) → v < b → fixed_digits b (suc m) (n * b + v) ≡ fixed_digits b m n ++ (v ∷ [])
fixed_push b m n v h =
    ap (λ x. fixed_digits b m x ++ ((n * b + v) % b ∷ [])) (div-mul-add n b v h) ∙ ap (λ x. fixed_digits b m n ++ (x ∷ [])) (mod-mul-add n b v h)

-- nothing was written of something
pub begun_none : (owed old : List ℕ) → 0 < length owed → IsBegun owed old old
begun_none owed old some = record { later = owed; written = []; missing = some; parts = sym (append-nil owed); is = refl }

-- words that were to be written below a last one
pub begun_below : (h : ℕ) (owed old new : List ℕ) → IsBegun owed old new → IsBegun (h ∷ owed) old new
begun_below h owed old new i =
    record { later = h ∷ i.later; written = i.written; missing = omega arith; parts = ap (λ (ws : List ℕ). h ∷ ws) i.parts; is = i.is }

-- the last one alone is missing
pub last_missing : (h : ℕ) (owed old new : List ℕ) → new ≡ owed ++ old → IsBegun (h ∷ owed) old new
last_missing h owed old new is = record { later = h ∷ []; written = owed; missing = omega arith; parts = refl; is = is }

module _ {W B E S : Type 0} (number : W → ℕ) (holds : holding.Ghosts B W S) (writes : writing.Ghosts B W E) where
  -- no words are written, and nothing is asked for
  pub appends_none : (b : B) → Appends number holds writes [] b (Ok tt) b
  appends_none b = record { words = refl; in_turn = λ some. absurd (omega (arith, some)); room_used = omega arith; untouched = λ e. (refl, refl); begun = tt; short = tt; kept = λ m. tt; error = tt }

  -- no room was made
  pub not_prepared : ((b : B) (count : ℕ) (e : E) → count ≤ writes.room b → writes.prepare_fails b count e → ⊥) → (owed : List ℕ) (old new : B) (e : E) → writes.prepare_fails old (length owed) e
      → holds.words new ≡ holds.words old → 0 < length owed → Appends number holds writes owed old (Err e) new
  not_prepared law owed old new e fails same some =
      record {
        words = tt;
        in_turn = tt;
        room_used = tt;
        untouched = λ none. absurd (omega (arith, some, ap length none));
        begun = rw same (begun_none owed (map number (holds.words old)) some);
        short = elim (cases_lt (writes.room old) (length owed)) [ inl less ↦ less | inr more ↦ absurd (law old (length owed) e more fails) ];
        kept = λ makes. same;
        error = inl (fails, same);
      }

  -- writes after other writes
  pub written_then : (later first : List ℕ) (old between new : B) → WriteTrace number writes first old between → WriteTrace number writes later between new
      → WriteTrace number writes (later ++ first) old new
  written_then [] first old between new h k = subst (λ (b : B). WriteTrace number writes first old b) (sym k) h
  written_then (n ∷ later) first old between new h k = (k.0, written_then later first old between k.0 h k.1, k.2)

  -- one write
  pub written_one : (word : W) (old new : B) → writes.writes old word (Ok tt) new → WriteTrace number writes (number word ∷ []) old new
  written_one word old new wrote = (old, refl, (word, refl, wrote))

  -- a write is refused at once
  pub stops_at_once : (word : W) (old new : B) (e : E) → writes.writes old word (Err e) new → writes.write_fails old e → holds.words new ≡ holds.words old
      → StopsAtWrite number holds writes (number word ∷ []) old e new
  stops_at_once word old new e refused fails same =
      record { later = []; word = word; written = []; parts = refl; last = old; led = refl; refused = refused; fails = fails; kept = sym same }

  -- the refused write is that of a word of the later ones
  pub stops_later : (later first : List ℕ) (old between new : B) (e : E) → WriteTrace number writes first old between → StopsAtWrite number holds writes later between e new
      → StopsAtWrite number holds writes (later ++ first) old e new
  stops_later later first old between new e h i =
      record {
        later = i.later;
        word = i.word;
        written = i.written ++ first;
        parts = ap (λ (ws : List ℕ). ws ++ first) i.parts ∙ append_assoc i.later (number i.word ∷ i.written) first;
        last = i.last;
        led = written_then i.written first old between i.last h i.led;
        refused = i.refused;
        fails = i.fails;
        kept = i.kept;
      }

  -- or of the first ones
  pub stops_before : (later first : List ℕ) (old new : B) (e : E) → StopsAtWrite number holds writes first old e new → StopsAtWrite number holds writes (later ++ first) old e new
  stops_before later first old new e i =
      record {
        later = later ++ i.later;
        word = i.word;
        written = i.written;
        parts = ap (λ (ws : List ℕ). later ++ ws) i.parts ∙ sym (append_assoc later i.later (number i.word ∷ i.written));
        last = i.last;
        led = i.led;
        refused = i.refused;
        fails = i.fails;
        kept = i.kept;
      }

  -- room was asked for all of them
  pub prepared : (owed : List ℕ) (count : ℕ) (old new : B) → count ≡ length owed → holds.words new ≡ holds.words old → writes.room old ≤ writes.room new
      → (writes.makes_room → count ≤ writes.room new) → ((e : E) → writes.write_fails new e → writes.write_fails old e) → IsPrepared holds writes (length owed) old new
  prepared owed count old new is same more made fails = record { words = same; room = more; made = λ makes. rw (← is) (made makes); fails = fails }

  -- after room was asked for, which made none
  pub stopped : (owed : List ℕ) (old mid new : B) (e : E) → IsPrepared holds writes (length owed) old mid → WritesAll number holds writes owed mid (Err e) new
      → RefusesWrite number holds writes owed old e new
  stopped owed old mid new e prepared i = (λ makes. (let full = prepared.made makes in omega (arith, full, i.short)), (mid, prepared, i.error))

  -- they are written once there is room for them
  pub appended : (owed : List ℕ) (old mid new : B) (answer : Result (Unit {0}) E) → IsPrepared holds writes (length owed) old mid
      → 0 < length owed → WritesAll number holds writes owed mid answer new → Appends number holds writes owed old answer new
  appended owed old mid new (Ok done) prepared some i =
      record {
        words = rw (← prepared.words) i.words;
        in_turn = λ _. (mid, prepared, i.in_turn);
        room_used = omega (arith, prepared.room, i.room_used);
        untouched = λ none. absurd (omega (arith, some, ap length none));
        begun = tt;
        short = tt;
        kept = λ makes. tt;
        error = tt;
      }
  appended owed old mid new (Err e) prepared some i =
      record {
        words = tt;
        in_turn = tt;
        room_used = tt;
        untouched = λ none. absurd (omega (arith, some, ap length none));
        begun = rw (← prepared.words) i.begun;
        short = omega (arith, prepared.room, i.short);
        kept = λ makes. (let full = prepared.made makes in absurd (omega (arith, full, i.short)));
        error = inr (stopped owed old mid new e prepared i);
      }

  -- where the backend is gone
  pub not_written : (owed : List ℕ) (old new : B) (e : E) → Appends number holds writes owed old (Err e) new → NotWritten number holds writes owed old e
  not_written owed old new e i = (
    i.short,
    elim i.error [
      | inl fails ↦ inl fails.0
      | inr refused ↦ inr (new, i.begun, refused)
    ],
  )
