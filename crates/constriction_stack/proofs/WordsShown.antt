-- The words of a coder as it shows them, the first one first; and what reads keep of a backend.
use Rattle.std.specs.Prelude.{Option, None, Result, Ok, map, reverse}
use Rattle.std.proofs.Common.{◌≡◌, ℕ, ◌/◌, ◌%◌, ◌^◌, ◌<◌, ◌≤◌, List, [], ◌∷◌, ◌++◌, length, sym, ap, ◌∙◌, arith, inl, inr}
use Rattle.std.proofs.lemmas.List.{reverse-append, reverse-reverse}
use Rattle.std.proofs.lemmas.Int.Digits.{digits_of_step}
use Rattle.std.specs.Int.Digits.{digits_of}
use Rattle.constriction_stack.specs.Ans.{exported}
use Rattle.constriction_stack.specs.Binary.{BinaryFilledBy}
use Rattle.constriction_stack.specs.Imports.{FilledBy}
use Rattle.constriction_base.proofs.Exporting.{base_two, gives_keeps}
use Rattle.constriction_base.proofs.Turns.{map-reverse}

-- ---- words in the order in which they were written

pub shown_is : {W : Type 0} (number : W → ℕ) (w head : ℕ) (held lent : List W) → held ≡ reverse lent
    → map number lent ++ reverse (digits_of (2 ^ w) head) ≡ reverse (exported w (record { head = head; words = map number held }))
shown_is number w head held lent is =
    let below : reverse (map number held) ≡ map number lent =
    ap (λ ws. reverse (map number ws)) is ∙ ap reverse (map-reverse number lent) ∙ reverse-reverse (map number lent) in
    ap (λ ws. ws ++ reverse (digits_of (2 ^ w) head)) (sym below) ∙ sym (reverse-append (digits_of (2 ^ w) head) (map number held))

-- the head's lowest word comes first, where no word is left below it
pub next_shown : {W : Type 0} (number : W → ℕ) (w head word rest : ℕ) (below : List W) → 1 ≤ w → 0 < head → length below ≡ 0 → word ≡ head % 2 ^ w → rest ≡ head / 2 ^ w
    → map number below ++ reverse (digits_of (2 ^ w) head) ≡ word ∷ (map number below ++ reverse (digits_of (2 ^ w) rest))
next_shown number w head word rest [] bits some none is_word is_rest =
    rw (is_word, is_rest) (ap reverse (digits_of_step (2 ^ w) head (base_two w bits) some) ∙ reverse-append (digits_of (2 ^ w) (head / 2 ^ w)) (head % 2 ^ w ∷ []))
next_shown number w head word rest (x ∷ xs) bits some none is_word is_rest = absurd (omega (arith, none))

pub one_less : (x : ℕ) (xs ys : List ℕ) → xs ≡ x ∷ ys → length ys < length xs
one_less x xs ys is = omega (arith, ap length is)

-- ---- what each read keeps of a backend

pub filled_keeps : {W E B A : Type 0} (seen : B → A) (number : W → ℕ) (reads : B → Result (Option W) E → B → Type 0) (w s : ℕ) (old : B) (head : ℕ) (new : B) → FilledBy number reads w s old head new
    → ((before after : B) (answer : Result (Option W) E) → reads before answer after → seen after ≡ seen before) → seen new ≡ seen old
filled_keeps seen number reads w s old head new h keeps =
    let given = gives_keeps seen reads old h.1.words h.0 h.1.given keeps in
    elim h.2 [ inl full ↦ ap seen full.1 ∙ given | inr low ↦ keeps h.0 new (Ok None) low.1 ∙ given ]

pub binary_filled_keeps : {W E B A : Type 0} (seen : B → A) (number : W → ℕ) (reads : B → Result (Option W) E → B → Type 0) (w s : ℕ) (old : B) (head : ℕ) (new : B) → BinaryFilledBy number reads w s old head new
    → ((before after : B) (answer : Result (Option W) E) → reads before answer after → seen after ≡ seen before) → seen new ≡ seen old
binary_filled_keeps seen number reads w s old head new h keeps =
    let given = gives_keeps seen reads old h.1.words h.0 h.1.given keeps in
    elim h.2 [ inl full ↦ ap seen full.1 ∙ given | inr low ↦ keeps h.0 new (Ok None) low.1 ∙ given ]
