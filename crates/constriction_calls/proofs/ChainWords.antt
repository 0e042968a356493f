-- Words that stand for a chain coder, and words of heads behind a caller's.
use Rattle.std.proofs.Common.{◌≡◌, ◌⊎◌, refl, ℕ, ◌+◌, ◌^◌, ◌<◌, ◌≤◌, List, [], ◌∷◌, ◌++◌, Result, Ok, Err, length, map, reverse, take, sym, ap, ◌∙◌, subst, inl, inr}
use Rattle.std.specs.Prelude.{IfErr, OnErr, OnOk}
use Rattle.std.specs.Int.Digits.{digits_of}
use Rattle.constriction_base.specs.Digits.{fixed_digits}
use Rattle.constriction_base.specs.Writing.{IsOneAbove}
use Rattle.constriction_chain.specs.Chain.{ChainState, IsChain}
use Rattle.constriction_chain.specs.Imports.{FromBinary, FromCompressed, FromRemainders}
use Rattle.constriction_chain.specs.Words.{IsInBinary, remainder_words}
use Rattle.constriction_chain.proofs.Chains.{state, state_same}
use Rattle.constriction_inputs.specs.Buffers.{Appended, WordBuffer, stack_in}
use Rattle.constriction_calls.specs.ChainCalls.{AreHeads}
use Rattle.constriction_calls.specs.ChainWords.{AreBinaryHeads, AreWordsInForm, Begins, ChainBegins, ChainEnds, HaveWords, HeadsOver, TooShortForWords, heads_over}
use Rattle.constriction_calls.specs.declared.chain.Form.{Form}
use Rattle.constriction_calls.specs.declared.chain.ChainHeads.{ChainHeads}
use Rattle.constriction_inputs.specs.declared.refusal.Refusal.{Refusal}
use Rattle.constriction_inputs.specs.declared.refusal.Refusal.TheVariants as refusals
use Rattle.constriction_inputs.proofs.Asking.{room_of}
use Rattle.constriction_inputs.proofs.Stacked.{all_taken, counted, left_in, stacked}

-- ---- coders of a caller's words
module _ {W : Type 0} (number : W → ℕ) (w s P : ℕ) (words buf others : List W) (h r pos : ℕ) (x : ChainState) (within : pos ≤ length buf) (chain : IsChain w s P x) where
  -- no remainders, and no bits left over
  module _ (is : x ≡ state h r (map number (reverse (take pos buf))) (map number (reverse others))) (one : x.h ≡ 1) (none : x.remainders ≡ []) where
    whole_over : (t : List ℕ) → map number (reverse (take (length words) words)) ≡ t ++ x.compressed → (pos ≤ length words) × (x ≡ state h r (stack_in number words pos) [])
    whole_over t are =
        let found = left_in number words buf pos t x.compressed (ap (λ (z : ChainState). z.compressed) is) within are in
        (found.0, state_same x _ (ap (λ (z : ChainState). z.h) is) (ap (λ (z : ChainState). z.r) is) found.1 none)

    pub of_compressed : map number (reverse (take (length words) words)) ≡ digits_of (2 ^ w) x.r ++ x.compressed
        → (pos ≤ length words) × FromCompressed w s P (map number (reverse words)) (state h r (stack_in number words pos) [])
    of_compressed are =
        let found = whole_over (digits_of (2 ^ w) x.r) are in
        (found.0, subst (λ (z : ChainState). FromCompressed w s P (map number (reverse words)) z) found.1 (record { chain = chain; h = one; remainders = none }, sym (all_taken number words) ∙ are))

    pub of_binary : ((m : ℕ) × IsOneAbove w m x.r × (map number (reverse (take (length words) words)) ≡ fixed_digits (2 ^ w) m x.r ++ x.compressed))
        → (pos ≤ length words) × FromBinary w s P (map number (reverse words)) (state h r (stack_in number words pos) [])
    of_binary (m, above, are) =
        let found = whole_over (fixed_digits (2 ^ w) m x.r) are in
        (found.0, subst (λ (z : ChainState). FromBinary w s P (map number (reverse words)) z) found.1 (record { chain = chain; h = one; remainders = none }, (m, above, sym (all_taken number words) ∙ are)))

  pub of_remainders : x ≡ state h r (map number (reverse others)) (map number (reverse (take pos buf))) → x.compressed ≡ [] → map number (reverse (take (length words) words)) ≡ remainder_words w x
      → (pos ≤ length words) × FromRemainders w s P (map number (reverse words)) (state h r [] (stack_in number words pos))
  of_remainders is none are =
      let found = left_in number words buf pos (x.h ∷ digits_of (2 ^ w) x.r) x.remainders (ap (λ (z : ChainState). z.remainders) is) within are in
      let same : x ≡ state h r [] (stack_in number words pos) = state_same x _ (ap (λ (z : ChainState). z.h) is) (ap (λ (z : ChainState). z.r) is) none found.1 in
      (found.0, subst (λ (z : ChainState). FromRemainders w s P (map number (reverse words)) z) same (record { chain = chain; compressed = none; are = sym (all_taken number words) ∙ are }))

-- ---- what calls say of each answer
pub binary_heads : {A : Type 0} (w s P h r : ℕ) (x : ChainState) → x ≡ state h r [] [] → AreHeads w s P h r → IsInBinary w x × A → AreBinaryHeads w s P h r
binary_heads w s P h r x is heads found =
    let whole = rw is at found.0 in
    record { heads = heads; whole = whole.0; above = whole.1 }

module _ {Word State : Type 0} (number : Word → ℕ) (state' : State → ℕ) (w s P : ℕ) (form : Form) where
  module _ (words : List Word) (old : HeadsOver Word State) where
    pub begins_at : (new : HeadsOver Word State) → (new.len ≤ length words) × Begins form w s P (map number (reverse words)) (heads_over number state' form new.heads words new.len)
        → ChainBegins number state' w s P form words old new (Ok tt)
    begins_at new made = record { begun = made.1; within = made.0; asked = inr ((heads_over number state' form new.heads words new.len, made.1), tt); kept = tt }

    pub begins_none : ((x : ChainState) × Begins form w s P (map number (reverse words)) x → ⊥) → ChainBegins number state' w s P form words old old (Err refusals.InvalidData)
    begins_none none = record { begun = tt; within = tt; asked = inl (none, refl); kept = refl }

  module _ (heads : ChainHeads Word State) (old new : WordBuffer Word) (added : List Word) where
    -- words that were put behind a caller's, or found no room there
    pub ends_at : old.len ≤ length old.words → HaveWords number state' w s P form heads
        → AreWordsInForm form w (map number (reverse added) ++ stack_in number old.words old.len) (heads_over number state' form heads old.words old.len)
        → (r : Result (Unit {0}) Refusal) → OnOk r (Appended old.words old.len added new.words new.len) → OnErr r (length old.words < old.len + length added) → (past : Type 0)
        → IfErr r (λ e. (e ≡ refusals.NoSpace (old.len + length added)) ⊎ ((e ≡ refusals.NoMemory) × past)) → OnErr r ((new.words ≡ old.words) × (new.len ≡ old.len))
        → ChainEnds number state' w s P form heads old new r
    ends_at within have are (Ok u) appended full past why kept = record {
      ended = rw (stacked number old.words old.len added new.words new.len appended) are;
      appended = (added, appended);
      asked = inr (within, inr (have, tt));
      kept = tt;
    }
    ends_at within have are (Err e) appended full past why kept =
        let lacks : TooShortForWords (length old.words) (λ words. AreWordsInForm form w words (heads_over number state' form heads old.words old.len)) (old.len + length added) =
        record { past = full; words = map number (reverse added) ++ stack_in number old.words old.len; are = are; count = counted number old.words old.len added within } in
        record { ended = tt; appended = tt; asked = inr (within, inr (have, room_of _ e (old.len + length added) why lacks)); kept = rw (kept.0, kept.1) refl }
