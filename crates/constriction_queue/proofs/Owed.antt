-- What is owed at once, in its parts.
use Rattle.std.specs.Prelude.{Result, Ok, Err, OnOk, OnErr, IfErr}
use Rattle.std.proofs.Common.{◌≡◌, ℕ, ◌+◌, ◌-◌, ◌<◌, ◌≤◌, List, [], ◌∷◌, ◌++◌, length, length-append, append_assoc, map, replicate, refl, sym, ap, subst, ◌∙◌, arith, inl, inr}
use Rattle.std.proofs.lemmas.Bool.{cases_lt}
use Rattle.constriction_base.specs.Writing.{WritesAll}
use Rattle.constriction_base.specs.declared.backends.reading.Holds as holding
use Rattle.constriction_base.specs.declared.backends.writing.WriteWords as writing
use Rattle.constriction_base.proofs.Written.{begun_none, stops_at_once, stops_before, stops_later, written_one, written_then}
use Rattle.constriction_queue.proofs.Begun.{held_more, held_part, length-repeated_words, more_begun, part_begun}
use Rattle.constriction_queue.specs.Encoder.{repeated_words}

-- held words are some
pub words_some : (x count first : ℕ) → 0 < length (repeated_words x count first)
words_some x count first = omega (arith, length-append (replicate (count - 1) x) (first ∷ []))

-- one more held word is one more
pub held_one_more : (x count first : ℕ) → 0 < count → length (repeated_words x (count + 1) first) ≤ length (repeated_words x count first) + 1
held_one_more x count first some = omega (arith, length-repeated_words x (count + 1) first (omega arith), length-repeated_words x count first some)

-- held words are never none
pub held_never : (x count first : ℕ) → repeated_words x count first ≡ [] → ⊥
held_never x count first none = omega (arith, ap length none, words_some x count first)

-- ---- words that are written one after another
module _ {Word B E S : Type 0} (number : Word → ℕ) (holds : holding.Ghosts B Word S) (writes : writing.Ghosts B Word E) where
  pub none_written : (b : B) → WritesAll number holds writes [] b (Ok tt) b
  none_written b = record { words = refl; in_turn = refl; room_used = omega arith; begun = tt; short = tt; error = tt }

  -- a write
  pub one_written : (word : Word) (old new : B) → writes.writes old word (Ok tt) new → holds.words new ≡ word ∷ holds.words old → writes.room old ≤ writes.room new + 1 → WritesAll number holds writes (number word ∷ []) old (Ok tt) new
  one_written word old new wrote is room =
      record { words = ap (map number) is; in_turn = written_one number holds writes word old new wrote; room_used = room; begun = tt; short = tt; error = tt }

  pub one_refused : ((b : B) (e : E) → 0 < writes.room b → writes.write_fails b e → ⊥) → (word : Word) (old new : B) (e : E) → writes.writes old word (Err e) new → holds.words new ≡ holds.words old → writes.write_fails old e
      → WritesAll number holds writes (number word ∷ []) old (Err e) new
  one_refused law word old new e refused same fails =
      record {
        words = tt;
        in_turn = tt;
        room_used = tt;
        begun = rw same (begun_none (number word ∷ []) (map number (holds.words old)) (omega arith));
        short = elim (cases_lt (writes.room old) 1) [ inl less ↦ less | inr more ↦ absurd (law old e (omega (arith, more)) fails) ];
        error = stops_at_once number holds writes word old new e refused fails same;
      }

  -- whether it was refused or not
  pub one_write : ((b : B) (e : E) → 0 < writes.room b → writes.write_fails b e → ⊥) → (word : Word) (old new : B) (answer : Result (Unit {0}) E) → writes.writes old word answer new
      → OnOk answer (holds.words new ≡ word ∷ holds.words old) → OnOk answer (writes.room old ≤ writes.room new + 1) → OnErr answer (holds.words new ≡ holds.words old) → IfErr answer (λ e. writes.write_fails old e)
      → WritesAll number holds writes (number word ∷ []) old answer new
  one_write law word old new (Ok done) wrote is room same fails = one_written word old new wrote is room
  one_write law word old new (Err e) wrote is room same fails = one_refused law word old new e wrote same fails

  -- a first part and the rest
  pub then_all : (first last : List ℕ) (old mid new : B) (answer : Result (Unit {0}) E) → WritesAll number holds writes first old (Ok tt) mid → WritesAll number holds writes last mid answer new
      → WritesAll number holds writes (last ++ first) old answer new
  then_all first last old mid new (Ok done) i j =
      record {
        words = j.words ∙ ap (λ (ws : List ℕ). last ++ ws) i.words ∙ sym (append_assoc last first (map number (holds.words old)));
        in_turn = written_then number holds writes last first old mid new i.in_turn j.in_turn;
        room_used = omega (arith, i.room_used, j.room_used, length-append last first);
        begun = tt;
        short = tt;
        error = tt;
      }
  then_all first last old mid new (Err e) i j =
      record {
        words = tt;
        in_turn = tt;
        room_used = tt;
        begun = more_begun last first (map number (holds.words old)) (map number (holds.words new)) (rw i.words at j.begun);
        short = omega (arith, i.room_used, j.short, length-append last first);
        error = stops_later number holds writes last first old mid new e i.in_turn j.error;
      }

  -- a first part was refused
  pub part_refused : (first last : List ℕ) (old new : B) (e : E) → WritesAll number holds writes first old (Err e) new → WritesAll number holds writes (last ++ first) old (Err e) new
  part_refused first last old new e i =
      record {
        words = tt;
        in_turn = tt;
        room_used = tt;
        begun = part_begun last first (map number (holds.words old)) (map number (holds.words new)) i.begun;
        short = omega (arith, i.short, length-append last first);
        error = stops_before number holds writes last first old new e i.error;
      }

  -- held words, the first of which were written
  pub held_written : (x first i : ℕ) → 1 ≤ i → (old mid new : B) → WritesAll number holds writes (repeated_words x i first) old (Ok tt) mid → WritesAll number holds writes (x ∷ []) mid (Ok tt) new
      → WritesAll number holds writes (repeated_words x (i + 1) first) old (Ok tt) new
  held_written x first i some old mid new before more =
      subst (λ (ws : List ℕ). WritesAll number holds writes ws old (Ok tt) new) (held_more x i first some) (then_all (repeated_words x i first) (x ∷ []) old mid new (Ok tt) before more)

  pub held_refused : (x count first i : ℕ) → 1 ≤ i → i < count → (old mid new : B) (e : E) → WritesAll number holds writes (repeated_words x i first) old (Ok tt) mid → WritesAll number holds writes (x ∷ []) mid (Err e) new
      → WritesAll number holds writes (repeated_words x count first) old (Err e) new
  held_refused x count first i some less old mid new e before refused =
      let more = ap (λ (ws : List ℕ). replicate (count - (i + 1)) x ++ ws) (held_more x i first some) ∙ held_part x count first (i + 1) (omega arith) (omega (arith, less)) in
      subst (λ (ws : List ℕ). WritesAll number holds writes ws old (Err e) new) more
      (part_refused (x ∷ repeated_words x i first) (replicate (count - (i + 1)) x) old new e (then_all (repeated_words x i first) (x ∷ []) old mid new (Err e) before refused))
