-- Words that moved into a head: the state that they make, and what this says of an import.
use Rattle.std.specs.Prelude.{Bool, true, false, MatchBool, None, Some, Ok, Err, map}
use Rattle.std.proofs.Common.{◌≡◌, ℕ, ◌+◌, ◌-◌, ◌*◌, ◌^◌, ◌<◌, ◌≤◌, List, ◌∷◌, ◌++◌, refl, sym, subst, ap, ◌∙◌, arith, inl, inr}
use Rattle.std.proofs.lemmas.List.{map-append}
use Rattle.std.specs.Int.Digits.{number_from_digits_after}
use Rattle.constriction_base.specs.Readings.{Imports, MovesIn, StopsAt}
use Rattle.constriction_base.specs.declared.backends.reading.Holds as holding
use Rattle.constriction_base.specs.declared.backends.reading.ReadWords as reading
use Rattle.constriction_base.proofs.Sizes.{Facts}
use Rattle.constriction_stack.specs.Ans.{filled}
use Rattle.constriction_stack.specs.Binary.{BinaryFilledBy, BinaryMovesIn, BinaryRefused}
use Rattle.constriction_stack.specs.Imports.{FilledBy, ImportRefused, ListRefused}
use Rattle.constriction_stack.proofs.Importing.{filled_by, filled_full}

module _ {W B E S : Type 0} (number : W → ℕ) (holds : holding.Ghosts B W S) (reads : reading.Ghosts B W S E) (w s : ℕ) where
  -- they are the first of a backend that knows its words
  moved_words : (from head : ℕ) (old last : B) → Facts w s → head < 2 ^ s → MovesIn number holds reads w from old head last → holds.is_list
      → filled w s from (map number (holds.words old)) ≡ filled w s head (map number (holds.words last))
  moved_words from head old last f fits i list =
      let within : number_from_digits_after (2 ^ w) from (map number i.words) < 2 ^ s = omega (arith, i.is, fits) in
      ap (λ (ws : List W). filled w s from (map number ws)) (i.taken list) ∙ ap (λ (ws : List ℕ). filled w s from ws) (map-append number i.words (holds.words last))
      ∙ filled_by w s from (map number i.words) (map number (holds.words last)) f within ∙ ap (λ n. filled w s n (map number (holds.words last))) (sym i.is)

  -- the head came to its bound, or no word was left
  abbrev pub Ended : Bool → ℕ → B → ℕ → B → Type 0
  Ended full from old head new =
      MatchBool full (MovesIn number holds reads w from old head new × (2 ^ (s - w) ≤ head)) (StopsAt number holds reads w (2 ^ (s - w)) from old head (Ok None) new)

  pub ended_state : (full : Bool) (from head : ℕ) (old new : B) → Facts w s → head < 2 ^ s → Ended full from old head new → holds.is_list
      → filled w s from (map number (holds.words old)) ≡ record { head = head; words = map number (holds.words new) }
  ended_state true from head old new f fits (i, full) list = moved_words from head old new f fits i list ∙ filled_full w s head (map number (holds.words new)) (inl full)
  ended_state false from head old new f fits i list =
      let none = i.read.1 list in
      moved_words from head old i.last f fits i.moved list ∙ rw (none.0, none.1) refl

  -- ---- below a one
  below_one : (head : ℕ) (old new : B) → MovesIn number holds reads w 1 old head new → BinaryMovesIn number reads.reads w old head new
  below_one head old new i = record { words = i.words; given = i.given; is = i.is }

  pub ended_binary : (full : Bool) (head : ℕ) (old new : B) → Ended full 1 old head new → BinaryFilledBy number reads.reads w s old head new
  ended_binary true head old new (i, full) = (new, below_one head old new i, inl (full, refl))
  ended_binary false head old new i = (i.last, below_one head old i.last i.moved, inr (i.low, i.read.0))

  pub refused_binary : (head : ℕ) (old new : B) (e : E) → StopsAt number holds reads w (2 ^ (s - w)) 1 old head (Err e) new → BinaryRefused number reads.reads w s old e
  refused_binary head old new e i = (new, head, i.last, below_one head old i.last i.moved, i.low, i.read.0)

  -- ---- below a first word that isn't 0
  module _ (old between : B) (word : W) (first : reads.reads old (Ok (Some word)) between) (some : 0 < number word) where
    imports_of : (head : ℕ) (new : B) → MovesIn number holds reads w (number word) between head new → Imports number reads.reads w old head new
    imports_of head new i =
        let from : 0 * 2 ^ w + number word ≡ number word = omega arith in
        record {
          words = word ∷ i.words;
          given = (between, first, i.given);
          high = some;
          is = subst (λ k. head ≡ number_from_digits_after (2 ^ w) k (map number i.words)) (sym from) i.is;
        }

    pub ended_import : (full : Bool) (head : ℕ) (new : B) → Ended full (number word) between head new → FilledBy number reads.reads w s old head new
    ended_import true head new (i, full) = (new, imports_of head new i, inl (full, refl))
    ended_import false head new i = (i.last, imports_of head i.last i.moved, inr (i.low, i.read.0))

    pub refused_import : (head : ℕ) (new : B) (e : E) → StopsAt number holds reads w (2 ^ (s - w)) (number word) between head (Err e) new → ImportRefused number reads.reads w s old new
    refused_import head new e i = inr (head, i.last, e, imports_of head i.last i.moved, i.low, i.read.0)

    pub refused_list : (head : ℕ) (new : B) (e : E) → holds.words old ≡ word ∷ holds.words between → StopsAt number holds reads w (2 ^ (s - w)) (number word) between head (Err e) new → holds.is_list
        → ListRefused E number (holds.words old) (holds.words new)
    refused_list head new e taken i list =
        inr (
          word ∷ i.moved.words,
          e,
          taken ∙ ap (λ (ws : List W). word ∷ ws) (i.moved.taken list ∙ ap (λ (ws : List W). i.moved.words ++ ws) (sym (i.read.1 list))),
        )
