-- The words of a seal: they are words, they lie within the run, and reading them ends there.
use Rattle.std.proofs.Common.{◌≡◌, ◌≢◌, ℕ, zero, suc, ◌+◌, ◌-◌, ◌*◌, ◌/◌, ◌^◌, ◌<◌, ◌≤◌, List, [], ◌∷◌, ◌++◌, drop, length, slice_index, refl, sym, ap, ap₂, ◌∙◌, subst, inl, inr, arith, pow_pos, eq-eqb, ne_eqb, length-append}
use Rattle.std.proofs.lemmas.Bool.{cases_eq}
use Rattle.constriction_base.specs.Digits.{fixed_digits}
use Rattle.constriction_base.specs.Steps.{Step, IsSizes, AreWords}
use Rattle.constriction_base.specs.Models.{Item, AreModels}
use Rattle.constriction_base.proofs.Sizes.{Facts, facts}
use Rattle.constriction_queue.specs.Range.{Run, IsInterval, Within, number_read, offset, seal_number, sealed, initial}
use Rattle.constriction_queue.specs.Encoder.{Encoder, HasHeads, Without, run_by, run_of}
use Rattle.constriction_queue.proofs.Cuts.{offset_is}
use Rattle.constriction_queue.proofs.Narrowing.{valid_start}
use Rattle.constriction_queue.proofs.SealedRuns.{ceil_below, ceil_from, less_after, number_zeros, seal_point, tail, zero_word}
use Rattle.constriction_queue.specs.Symbols.{NarrowsAll, MayEnd}
use Rattle.constriction_queue.proofs.Entries.{entries, are_steps, run_is, intervals}
use Rattle.constriction_base.proofs.WordLists.{words-append, words-fixed_digits}
use Rattle.constriction_base.proofs.Guards.{fixed-length}

-- ---- the words of a seal, by cases
sealed_none : (w s : ℕ) (r : Run) → r.range ≡ 2 ^ s - 1 → sealed w s r ≡ fixed_digits (2 ^ w) r.moves (r.low / 2 ^ s)
sealed_none w s r e = rw (eq-eqb r.range (2 ^ s - 1) e) refl

sealed_some : (w s : ℕ) (r : Run) → r.range ≢ 2 ^ s - 1 → sealed w s r ≡ fixed_digits (2 ^ w) (suc r.moves) (seal_number w s r) ++ tail w s r
sealed_some w s r ne = rw (ne_eqb r.range (2 ^ s - 1) ne) refl

-- they are no fewer than the moves
pub sealed_long : (w s : ℕ) (r : Run) → r.moves ≤ length (sealed w s r)
sealed_long w s r = elim (cases_eq r.range (2 ^ s - 1)) [
  | inl e ↦ omega (arith, ap length (sealed_none w s r e), fixed-length (2 ^ w) r.moves (r.low / 2 ^ s))
  | inr ne ↦ (let ds : List ℕ = fixed_digits (2 ^ w) (suc r.moves) (seal_number w s r) in
      omega (arith, ap length (sealed_some w s r ne), length-append ds (tail w s r), fixed-length (2 ^ w) (suc r.moves) (seal_number w s r)))
]

-- the tail is a zero word, or none
tail_is : (w s : ℕ) (r : Run) (P : List ℕ → Type 0) → P (0 ∷ []) → P [] → P (tail w s r)
tail_is w s r P one none = elim (cases_eq ((r.low + r.range) / 2 ^ (s - w)) (seal_number w s r)) [
  | inl e ↦ rw (eq-eqb ((r.low + r.range) / 2 ^ (s - w)) (seal_number w s r) e) one
  | inr ne ↦ rw (ne_eqb ((r.low + r.range) / 2 ^ (s - w)) (seal_number w s r) ne) none
]

-- ---- the run of symbols
module _ {S : Type 0} (w s : ℕ) (z : IsSizes w s) where
  -- behind an interval the range is shorter than the first
  pub less_behind : (item : Item S) (items : List (Item S)) (old last : Run)
      → AreModels w (item ∷ items) → IsInterval w s old → NarrowsAll w s (item ∷ items) old last → last.range + 1 < 2 ^ s
  less_behind item items old last ms v h =
      let e : Step = record { precision = item.model.precision; left = h.1.0; p = h.1.1 } in
      let es : List Step = entries w s items h.0 last h.2 in
      subst (λ (r : Run). r.range + 1 < 2 ^ s) (run_is w s (item ∷ items) old last h)
      (less_after w s e es old z (are_steps w s (item ∷ items) old last h ms) v)

  pub less_than_all : (item : Item S) (items : List (Item S)) (last : Run) → AreModels w (item ∷ items) → NarrowsAll w s (item ∷ items) (initial s) last → last.range + 1 < 2 ^ s
  less_than_all item items last ms h = less_behind item items (initial s) last ms (valid_start w s z) h

-- ---- where reading ends
pub drop_all : (n : ℕ) (ws : List ℕ) → length ws ≤ n → drop n ws ≡ []
drop_all zero [] h = refl
drop_all zero (x ∷ ws) h = absurd (omega arith)
drop_all (suc n) [] h = refl
drop_all (suc n) (x ∷ ws) h = drop_all n ws (omega arith)

no_word : (i : ℕ) → slice_index [] i ≡ 0
no_word i = refl

-- the number that is read is a multiple of 2 ^ (s - w), the least in the interval
number_at_end : (w s : ℕ) (r : Run) → IsSizes w s → IsInterval w s r → r.range + 1 < 2 ^ s → number_read w s (sealed w s r) r.moves ≡ seal_number w s r * 2 ^ (s - w)
number_at_end w s r z v h =
    let c : ℕ = seal_number w s r in
    let q : ℕ = 2 ^ (s - w) in
    let ds : List ℕ = fixed_digits (2 ^ w) (suc r.moves) c in
    rw (sealed_some w s r (λ e. omega (arith, h, e)))
    (tail_is w s r (λ ws. number_read w s (ds ++ ws) r.moves ≡ c * q)
    (seal_point w s r (0 ∷ []) z v ∙ (ap (λ x. c * q + x) (number_zeros (2 ^ w) (s / w - 1) (0 ∷ []) zero_word) ∙ omega arith))
    (seal_point w s r [] z v ∙ (ap (λ x. c * q + x) (number_zeros (2 ^ w) (s / w - 1) [] no_word) ∙ omega arith)))

-- so the sealed words of any interval that is shorter than the first lie within it
pub sealed_within_interval : (w s : ℕ) (r : Run) → IsSizes w s → IsInterval w s r → r.range + 1 < 2 ^ s
    → Within w s (sealed w s r) r
sealed_within_interval w s r z v h =
    let some : 0 < 2 ^ (s - w) = pow_pos (s - w) in
    let read = number_at_end w s r z v h in
    record {
      from = omega (arith, read, ceil_from r.low (2 ^ (s - w)) some);
      below = omega (arith, read, ceil_below r.low (2 ^ (s - w)) some, v.least);
    }

end_of : (w s : ℕ) (r : Run) → IsSizes w s → IsInterval w s r → r.range + 1 < 2 ^ s → MayEnd w s (sealed w s r) r
end_of w s r z v h =
    let f : Facts w s = facts w s z in
    let c : ℕ = seal_number w s r in
    let q : ℕ = 2 ^ (s - w) in
    let ds : List ℕ = fixed_digits (2 ^ w) (suc r.moves) c in
    let some : 0 < q = pow_pos (s - w) in
    let from : r.low ≤ c * q = ceil_from r.low q some in
    let below : c * q < r.low + q = ceil_below r.low q some in
    let read = number_at_end w s r z v h in
    let off : offset w s (sealed w s r) r ≡ number_read w s (sealed w s r) r.moves - r.low =
    offset_is r.low (number_read w s (sealed w s r) r.moves) (2 ^ s) (pow_pos s) (omega (arith, read, from)) (omega (arith, read, below, v.least, v.fits)) in
    let short : length (sealed w s r) ≤ r.moves + s / w =
    rw (sealed_some w s r (λ e. omega (arith, h, e)))
    (tail_is w s r (λ ws. length (ds ++ ws) ≤ r.moves + s / w)
    (omega (arith, length-append ds (0 ∷ []), fixed-length (2 ^ w) (suc r.moves) c, f.two))
    (omega (arith, length-append ds [], fixed-length (2 ^ w) (suc r.moves) c, f.two))) in
    (drop_all (r.moves + s / w) (sealed w s r) short, inr (omega (arith, off, read, from, below, some)))

-- the sealed words of a list of symbols have ended where it is read
pub sealed_end : {S : Type 0} (w s : ℕ) (items : List (Item S)) (last : Run) → IsSizes w s → AreModels w items → NarrowsAll w s items (initial s) last → MayEnd w s (sealed w s last) last
sealed_end w s [] last z ms h =
    let one : 0 < 2 ^ s = pow_pos s in
    subst (λ (r : Run). MayEnd w s (sealed w s r) r) (sym h)
    (let none : sealed w s (initial s) ≡ [] = sealed_none w s (initial s) refl in
    let all : (initial s).range + 1 ≡ 2 ^ s = omega (arith, one) in
    (drop_all (0 + s / w) (sealed w s (initial s)) (omega (arith, ap length none)), inl all))
sealed_end w s (item ∷ items) last z ms h =
    end_of w s last z (intervals w s (item ∷ items) (initial s) last z ms (valid_start w s z) h) (less_than_all w s z item items last ms h)

-- ---- an encoder that a guard has left
-- with the heads and the words of before, its run is that of before
pub run_of_left : {B : Type 0} (w s count : ℕ) (encoder shown left : Encoder B) → HasHeads encoder shown → drop count shown.words ≡ encoder.words → Without count shown left
    → run_by w s left ≡ run_by w s encoder
run_of_left w s count encoder shown left heads back taken =
    let words : left.words ≡ encoder.words = taken.words ∙ back in
    let held : left.held ≡ encoder.held = taken.heads.held ∙ heads.held in
    let lower : left.lower ≡ encoder.lower = taken.heads.lower ∙ heads.lower in
    let range : left.range ≡ encoder.range = taken.heads.range ∙ heads.range in
    ap₂ (λ hs ws. run_of w s (hs ++ ws) left.lower left.range) held words ∙ ap₂ (λ l r. run_of w s (encoder.held ++ encoder.words) l r) lower range
