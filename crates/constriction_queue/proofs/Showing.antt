-- The words of an encoder in the order in which they are shown, the first one first.
use Rattle.std.specs.Prelude.{replicate}
use Rattle.std.proofs.Common.{◌≡◌, ℕ, zero, suc, ◌-◌, List, [], ◌∷◌, ◌++◌, Option, None, Some, map, reverse, drop, length, refl, sym, ap, ◌∙◌, arith, append_assoc}
use Rattle.std.proofs.lemmas.List.{length-reverse, reverse-append, reverse-reverse}
use Rattle.std.specs.Int.NonZero.{non_zero_usize_get}
use Rattle.constriction_queue.specs.declared.situation.ReleasedWords.{ReleasedWords}
use Rattle.constriction_queue.specs.Encoder.{pending_in_order, flushed_in_order, flushed_of, released_of, word_of}
use Rattle.constriction_base.proofs.Turns.{map-reverse}
use Rattle.std.proofs.Math.Seq.{drop-append_seam}

-- words that are all the same, the other way round
one_behind : (x k : ℕ) → replicate k x ++ (x ∷ []) ≡ x ∷ replicate k x
one_behind x zero = refl
one_behind x (suc k) = ap (λ (ws : List ℕ). x ∷ ws) (one_behind x k)

reverse_same : (x k : ℕ) → reverse (replicate k x) ≡ replicate k x
reverse_same x zero = refl
reverse_same x (suc k) = reverse-append (x ∷ []) (replicate k x) ∙ ap (λ (ws : List ℕ). ws ++ (x ∷ [])) (reverse_same x k) ∙ one_behind x k

turned_held : {Word : Type 0} (number : Word → ℕ) (held : Option (ReleasedWords Word)) → reverse (released_of number held) ≡ pending_in_order number held
turned_held number None = refl
turned_held number (Some h) =
    reverse-append (replicate (non_zero_usize_get h.count - 1) (number h.others)) (number h.first ∷ [])
    ∙ ap (λ (ws : List ℕ). number h.first ∷ ws) (reverse_same (number h.others) (non_zero_usize_get h.count - 1))

turned_word : {Word : Type 0} (number : Word → ℕ) (word : Option Word) → reverse (word_of number word) ≡ word_of number word
turned_word number None = refl
turned_word number (Some x) = refl

-- what is owed, the other way round
pub turned_owed : {Word : Type 0} (number : Word → ℕ) (held : Option (ReleasedWords Word)) (top last : Option Word)
    → reverse (flushed_of number held top last) ≡ flushed_in_order number held top last
turned_owed number held top last =
    let two : reverse (word_of number top ++ released_of number held) ≡ pending_in_order number held ++ word_of number top =
    reverse-append (word_of number top) (released_of number held)
    ∙ ap (λ (ws : List ℕ). ws ++ reverse (word_of number top)) (turned_held number held)
    ∙ ap (λ (ws : List ℕ). pending_in_order number held ++ ws) (turned_word number top) in
    reverse-append (word_of number last) (word_of number top ++ released_of number held)
    ∙ ap (λ (ws : List ℕ). ws ++ reverse (word_of number last)) two
    ∙ ap (λ (ws : List ℕ). (pending_in_order number held ++ word_of number top) ++ ws) (turned_word number last)
    ∙ append_assoc (pending_in_order number held) (word_of number top) (word_of number last)

-- the words that a backend lends, and behind them what is owed
pub shown_is : {Word : Type 0} (number : Word → ℕ) (words lent : List Word) (held : Option (ReleasedWords Word)) (top last : Option Word) (all : List ℕ) → words ≡ reverse lent
    → reverse (flushed_of number held top last ++ map number words) ≡ all
    → map number lent ++ flushed_in_order number held top last ≡ all
shown_is number words lent held top last all is sealed_is =
    let below : reverse (map number words) ≡ map number lent =
    ap (λ ws. reverse (map number ws)) is ∙ ap reverse (map-reverse number lent) ∙ reverse-reverse (map number lent) in
    ap (λ ws. map number lent ++ ws) (sym (turned_owed number held top last))
    ∙ ap (λ ws. ws ++ reverse (flushed_of number held top last)) (sym below)
    ∙ sym (reverse-append (flushed_of number held top last) (map number words)) ∙ sealed_is

-- the word in front, where words that are read stand before it
pub next_shown : {X : Type 0} (number : X → ℕ) (below : List X) (seal rest : List ℕ) (x : ℕ) → length below ≡ 0 → seal ≡ x ∷ rest → map number below ++ seal ≡ x ∷ (map number below ++ rest)
next_shown number [] seal rest x none is = is
next_shown number (y ∷ ys) seal rest x none is = absurd (omega (arith, none))

-- what was written, as a queue
pub queue_is : {Word : Type 0} (number : Word → ℕ) {queue : List Word} (stack : List Word) {all : List ℕ} → queue ≡ reverse stack → reverse (map number stack) ≡ all → map number queue ≡ all
queue_is number stack is sealed_is = ap (map number) is ∙ map-reverse number stack ∙ sealed_is

-- behind the words written stands in the sealed ones what is owed
pub behind_written : {Word : Type 0} (number : Word → ℕ) (held : Option (ReleasedWords Word)) (top last : Option Word) (ws all : List ℕ)
    → reverse (flushed_of number held top last ++ ws) ≡ all → flushed_in_order number held top last ≡ drop (length ws) all
behind_written number held top last ws all is =
    sym (turned_owed number held top last)
    ∙ sym (drop-append_seam (reverse ws) (reverse (flushed_of number held top last)))
    ∙ ap (λ (l : List ℕ). drop (length (reverse ws)) l) (sym (reverse-append (flushed_of number held top last) ws) ∙ is)
    ∙ ap (λ n. drop n all) (length-reverse ws)

-- numbers of a list that is turned twice
pub turned : {Word : Type 0} (number : Word → ℕ) (xs : List Word) → reverse (map number (reverse xs)) ≡ map number xs
turned number xs = sym (queue_is number (reverse xs) (sym (reverse-reverse xs)) refl)
