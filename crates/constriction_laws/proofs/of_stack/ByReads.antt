-- Imports and decodes by reads, where a function tells the words.
use Rattle.std.proofs.Common.{◌≡◌, ℕ, ◌^◌, ◌<◌, List, [], ◌∷◌, ◌++◌, refl, sym, ap, ◌∙◌, arith, inl, inr}
use Rattle.std.specs.Prelude.{Bool, true, false, Option, Some, None, Result, Ok, Err, map}
use Rattle.std.proofs.lemmas.List.{map-append}
use Rattle.std.specs.Int.Digits.{number_from_digits_after}
use Rattle.constriction_base.specs.Backends.{Reads}
use Rattle.constriction_base.specs.Iterators.{FusedRead}
use Rattle.constriction_base.specs.Steps.{IsSizes}
use Rattle.constriction_stack.specs.Ans.{AnsState, AnsValue, filled, refilled, RefillsBy}
use Rattle.constriction_stack.specs.Imports.{FilledBy}
use Rattle.constriction_stack.proofs.Importing.{filled_by, filled_full}
use Rattle.constriction_laws.specs.Readings.{ListsItems, words_left}
use Rattle.constriction_laws.specs.stack.Readings.{state_by_words, DecodesBy, DecodesAllBy}
use Rattle.constriction_base.specs.Models.{Model, Item}
use Rattle.constriction_stack.specs.Symbols.{Decodes, DecodesAll}
use Rattle.constriction_base.specs.Readings.{ReadsReturn}
use Rattle.constriction_base.proofs.Sizes.{facts}

-- the words that reads gave stand before those that are left
given_words : {W E B : Type 0} (reads : B → Result (Option W) E → B → Type 0) (words : B → List W)
    → ((before after : B) (answer : Result (Option W) E) → reads before answer after → Reads (words before) answer (words after))
    → (old : B) (ws : List W) (new : B) → ReadsReturn reads old ws new → words old ≡ ws ++ words new
given_words reads words law old [] new h = sym (ap words h)
given_words {W} reads words law old (v ∷ vs) new h =
    law old h.0 (Ok (Some v)) h.1 ∙ ap (λ (ws : List W). v ∷ ws) (given_words reads words law h.0 vs new h.2)

pub filled_words : {W E B : Type 0} (number : W → ℕ) (reads : B → Result (Option W) E → B → Type 0) (words : B → List W) (w s head : ℕ) (old new : B)
    → IsSizes w s → head < 2 ^ s
    → ((before after : B) (answer : Result (Option W) E) → reads before answer after → Reads (words before) answer (words after))
    → FilledBy number reads w s old head new → filled w s 0 (map number (words old)) ≡ record { head = head; words = map number (words new) }
filled_words {W} number reads words w s head old new z fits law h =
    let last = h.0 in
    let given : words old ≡ h.1.words ++ words last = given_words reads words law old h.1.words last h.1.given in
    let listed : map number (words old) ≡ map number h.1.words ++ map number (words last) = ap (λ (ws : List W). map number ws) given ∙ map-append number h.1.words (words last) in
    let within : number_from_digits_after (2 ^ w) 0 (map number h.1.words) < 2 ^ s = omega (arith, h.1.is, fits) in
    let moved : filled w s 0 (map number (words old)) ≡ filled w s head (map number (words last)) =
    ap (λ (ws : List ℕ). filled w s 0 ws) listed ∙ filled_by w s 0 (map number h.1.words) (map number (words last)) (facts w s z) within
    ∙ ap (λ n. filled w s n (map number (words last))) (sym h.1.is) in
    moved ∙ elim h.2 [
      | inl full ↦ filled_full w s head (map number (words last)) (inl full.0) ∙ ap (λ b. let x : AnsState = record { head = head; words = map number (words b) } in x) (sym full.1)
      | inr ended ↦ (let none = law last new (Ok None) ended.1 in rw (none.0, none.1) refl)
    ]

-- ---- iterators
-- a read of a backend over an iterator, of which a function tells the words
pub item_read : {I W E : Type 0} (steps : I → Option (Result W E) → I → Type 0) (words : I → List W) → ListsItems steps words
    → (old new : I) (ended after : Bool) (answer : Result (Option W) E) → FusedRead steps (old, ended) answer (new, after)
    → Reads (words_left words (old, ended)) answer (words_left words (new, after))
item_read steps words law old new true after (Ok None) r = (refl, rw r.1 refl)
item_read {I} {W} {E} steps words law old new true after (Ok (Some v)) r = (let never : ◌≡◌ {A = Option (Result W E)} (Some (Ok v)) None = r.0 in absurd cc)
item_read {I} {W} {E} steps words law old new true after (Err e) r = (let never : ◌≡◌ {A = Option (Result W E)} (Some (Err e)) None = r.0 in absurd cc)
item_read steps words law old new false after (Ok None) r = (law old new None r.0, rw r.1 refl)
item_read steps words law old new false after (Ok (Some v)) r = rw r.1 (law old new (Some (Ok v)) r.0)
item_read steps words law old new false after (Err e) r = rw r.1 (law old new (Some (Err e)) r.0)

-- ---- decodes
module _ {S W E B : Type 0} (number : W → ℕ) (reads : B → Result (Option W) E → B → Type 0) (words : B → List W) (w s : ℕ)
    (law : (head new_head : ℕ) (old new : B) → RefillsBy number reads w s head old new_head new
    → refilled w s head (map number (words old)) ≡ record { head = new_head; words = map number (words new) }) where
  pub decode_told : (model : Model S) (symbol : S) (old new : AnsValue B) → DecodesBy number reads w s model symbol old new
      → Decodes w s model symbol (state_by_words number words old) (state_by_words number words new)
  decode_told model symbol old new d =
      (d.0, d.1, d.2, (record { from = d.3.0.from; below = d.3.0.below }, sym (law _ new.state.head old.backend new.backend d.3.1)))

  pub decodes_told : (items : List (Item S)) (old new : AnsValue B) → DecodesAllBy number reads w s items old new
      → DecodesAll w s items (state_by_words number words old) (state_by_words number words new)
  decodes_told [] old new d = ap (λ (x : AnsValue B). state_by_words number words x) d
  decodes_told (item ∷ items) old new d =
      (state_by_words number words d.0, decode_told item.model item.symbol old d.0 d.1, decodes_told items d.0 new d.2)
