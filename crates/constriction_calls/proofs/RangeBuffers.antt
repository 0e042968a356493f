-- Encoders between calls: what one over no words does, said of the caller's whole encoder, behind any words.
use Rattle.std.proofs.Common.{◌≡◌, ℕ, zero, suc, ◌+◌, ◌-◌, ◌*◌, ◌^◌, ◌<◌, ◌≤◌, List, [], ◌∷◌, ◌++◌, length, map, sym, ap, ◌∙◌, subst, arith, append-nil, mul-le-mul_right}
use native.Mathlib.Nat.{pow-zero}
use Rattle.std.specs.Prelude.{min, replicate, reverse}
use Rattle.std.proofs.lemmas.List.{length-append, length-replicate}
use Rattle.std.proofs.lemmas.Nat.{pow-add}
use Rattle.constriction_base.specs.Models.{Item}
use Rattle.constriction_base.specs.Steps.{IsSizes}
use Rattle.constriction_queue.specs.Encoder.{number_of, run_of}
use Rattle.constriction_queue.specs.Range.{IsInterval, Run, sealed}
use Rattle.constriction_queue.proofs.Seals.{words_of_numbers}
use Rattle.constriction_queue.proofs.Showing.{turned}
use Rattle.constriction_queue.specs.Symbols.{NarrowsAll}
use Rattle.constriction_calls.specs.RangeCalls.{ValidEncoder, ValidPending, pending_of_parts, run_of_parts}
use Rattle.constriction_calls.specs.declared.range.parts.EncoderParts.{EncoderParts}
use Rattle.constriction_queue.proofs.Behind.{held_inside, narrows_above, run_behind, sealed_behind, sealed_length}
use Rattle.constriction_inputs.proofs.Stacked.{turned_words}
use Rattle.constriction_queue.proofs.Below.{number_below}

-- ---- an encoder
module _ {Word State : Type 0} (number : Word → ℕ) (state : State → ℕ) (w s : ℕ) where
  -- what it holds leaves room for its interval
  inside_by : (held first lower range : ℕ) → ValidPending w s held first lower range → lower < 2 ^ s → range < 2 ^ s
      → (run_of w s (pending_of_parts w held first) lower range).low + range < 2 ^ s * (2 ^ w) ^ length (pending_of_parts w held first)
  inside_by zero first lower range fit lower_fits range_fits =
      let one : (2 ^ w) ^ 0 ≡ 1 = pow-zero (2 ^ w) in
      let same : 2 ^ s * (2 ^ w) ^ 0 ≡ 2 ^ s * 1 = ap (λ n. 2 ^ s * n) one in
      omega (arith, fit.1, same)
  inside_by (suc held) first lower range fit lower_fits range_fits = held_inside w s (suc held) first lower range fit.1 lower_fits range_fits

  module _ (e : EncoderParts Word State) where
    alone : run_of_parts number state w s e [] ≡ run_of w s (pending_of_parts w e.held (number e.first)) (state e.lower) (state e.range)
    alone = ap (λ ws. run_of w s ws (state e.lower) (state e.range)) (append-nil (pending_of_parts w e.held (number e.first)))

    -- nothing is held back behind words that were written, but what is held back behind none
    pub sealed_kept : ((x : Word) → number x < 2 ^ w) → ((x : State) → state x < 2 ^ s) → IsSizes w s → ValidEncoder number state w s e → (old : List Word)
        → sealed w s (run_of_parts number state w s e old) ≡ map number old ++ sealed w s (run_of_parts number state w s e [])
    sealed_kept words states sizes is old =
        let below : List ℕ = map number (reverse old) in
        let held : List ℕ = pending_of_parts w e.held (number e.first) in
        ap (λ (r : Run). sealed w s r) (run_behind w s held below (state e.lower) (state e.range))
        ∙ sealed_behind w s below (run_of w s held (state e.lower) (state e.range)) (omega (arith, sizes.two_words)) (words_of_numbers number w words (reverse old)) is.least
        (inside_by e.held (number e.first) (state e.lower) (state e.range) is.fit (states e.lower) (states e.range))
        ∙ ap (λ ws. ws ++ sealed w s (run_of w s held (state e.lower) (state e.range))) (turned number old)
        ∙ ap (λ (r : Run). map number old ++ sealed w s r) (sym alone)

    -- encodes lead on behind any words
    pub narrows_kept : {S : Type 0} (items : List (Item S)) (new : EncoderParts Word State) (added : List Word)
        → NarrowsAll w s items (run_of_parts number state w s e []) (run_of_parts number state w s new added) → (old : List Word)
        → NarrowsAll w s items (run_of_parts number state w s e old) (run_of_parts number state w s new (old ++ added))
    narrows_kept items new added all old =
        let held : List ℕ = pending_of_parts w e.held (number e.first) in
        let kept : List ℕ = pending_of_parts w new.held (number new.first) in
        rw (turned_words number old added)
        (narrows_above w s items held kept (map number (reverse added)) (map number (reverse old)) (state e.lower) (state e.range) (state new.lower) (state new.range) (rw alone at all))

    -- it has an interval, behind any words
    pub interval_kept : ((x : Word) → number x < 2 ^ w) → ((x : State) → state x < 2 ^ s) → ValidEncoder number state w s e → (old : List Word) → IsInterval w s (run_of_parts number state w s e old)
    interval_kept words states is old =
        let below : List ℕ = map number (reverse old) in
        let held : List ℕ = pending_of_parts w e.held (number e.first) in
        let r : Run = run_of w s held (state e.lower) (state e.range) in
        let n : ℕ = number_of (2 ^ w) below in
        let m : ℕ = (2 ^ w) ^ length held in
        let small : n < (2 ^ w) ^ length below = number_below w below (words_of_numbers number w words (reverse old)) in
        let times : (n + 1) * (m * 2 ^ s) ≤ (2 ^ w) ^ length below * (m * 2 ^ s) = mul-le-mul_right (m * 2 ^ s) (omega (arith, small)) in
        let power : (2 ^ w) ^ (length held + length below) ≡ m * (2 ^ w) ^ length below = pow-add (2 ^ w) (length held) (length below) in
        let inside : r.low + state e.range < 2 ^ s * m = inside_by e.held (number e.first) (state e.lower) (state e.range) is.fit (states e.lower) (states e.range) in
        subst (λ (r : Run). IsInterval w s r) (sym (run_behind w s held below (state e.lower) (state e.range)))
        (record { least = is.least; fits = states e.range; inside = rw power (omega (arith, times, inside)) })

-- ---- how many words
-- the words of a seal are counted by an encoder that holds back one word at most
count_short : (w s held first lower range : ℕ) → w ≤ s → ValidPending w s held first lower range
    → length (sealed w s (run_of w s (pending_of_parts w held first) lower range))
    ≡ held - min held 1 + length (sealed w s (run_of w s (pending_of_parts w (min held 1) first) lower range))
count_short w s zero first lower range wide fit = omega arith
count_short w s (suc held) first lower range wide fit =
    let one : min (suc held) 1 ≡ 1 = omega arith in
    let ones : ℕ → List ℕ = λ count. pending_of_parts w (suc count) first in
    let part : range ≡ 2 ^ s - 1 → ⊥ = λ all. omega (arith, fit.2, all) in
    let long : (k : ℕ) → length (ones k) ≡ k + 1 =
    λ k. length-append (replicate (suc k - 1) (2 ^ w - 1)) (first ∷ []) ∙ omega (arith, length-replicate (suc k - 1) (2 ^ w - 1)) in
    rw one (omega (arith, long held, long 0, sealed_length w s (ones held) lower range wide part, sealed_length w s (ones 0) lower range wide part))

module _ {Word State : Type 0} (number : Word → ℕ) (state : State → ℕ) (w s : ℕ) (e : EncoderParts Word State) (is : ValidEncoder number state w s e) where
  abbrev pub short : EncoderParts Word State
  short = record { lower = e.lower; range = e.range; held = min e.held 1; first = e.first }

  pub short_count : w ≤ s → length (sealed w s (run_of_parts number state w s e [])) ≡ e.held - min e.held 1 + length (sealed w s (run_of_parts number state w s short []))
  short_count wide =
      ap (λ (r : Run). length (sealed w s r)) (alone number state w s e) ∙ (count_short w s e.held (number e.first) (state e.lower) (state e.range) wide is.fit
      ∙ ap (λ (r : Run). e.held - min e.held 1 + length (sealed w s r)) (sym (alone number state w s short)))
