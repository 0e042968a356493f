-- Pushes keep the words below, so that a position leads back.
use Rattle.std.proofs.Common.{◌≡◌, ℕ, ◌-◌, ◌%◌, ◌^◌, ◌≤◌, ◌⊎◌, List, [], ◌∷◌, ◌++◌, length, drop, refl, sym, ap, ◌∙◌, arith, inl, inr, append_assoc}
use Rattle.std.proofs.lemmas.List.{length-append}
use Rattle.constriction_base.specs.Steps.{Step, IsStep, IsSizes}
use Rattle.constriction_stack.specs.Ans.{AnsState, IsPush}
use Rattle.constriction_stack.specs.Positions.{position_of, sought, Grows}
use Rattle.constriction_stack.proofs.Pushing.{only_push}
use Rattle.std.proofs.Math.Seq.{drop-append_seam}

-- a push writes one word, the head's lowest, or none
pub push_words : (w s : ℕ) (e : Step) (old new : AnsState) → IsSizes w s → IsStep w e → IsPush w s e old new
    → (new.words ≡ old.words) ⊎ (new.words ≡ old.head % 2 ^ w ∷ old.words)
push_words w s e old new z h i = elim (only_push w s e z h old new i) [
  | inl (long, is) ↦ inr (ap (λ (x : AnsState). x.words) is)
  | inr (short, is) ↦ inl (ap (λ (x : AnsState). x.words) is)
]

pub push_grows : (w s : ℕ) (e : Step) (old new : AnsState) → IsSizes w s → IsStep w e → IsPush w s e old new → Grows old new
push_grows w s e old new z h i = elim (push_words w s e old new z h i) [
  | inl none ↦ ([], none)
  | inr one ↦ (old.head % 2 ^ w ∷ [], one)
]

pub grows_none : (old new : AnsState) → new ≡ old → Grows old new
grows_none old new is = ([], ap (λ (x : AnsState). x.words) is)

pub grows_more : (old mid new : AnsState) → Grows old mid → Grows mid new → Grows old new
grows_more old mid new first second =
    (second.0 ++ first.0, second.1 ∙ ap (λ ws. second.0 ++ ws) first.1 ∙ sym (append_assoc second.0 first.0 old.words))

-- below the words that came since lie those of the position
pub below_grown : (old new : AnsState) → Grows old new → drop (length new.words - length old.words) new.words ≡ old.words
below_grown old new h =
    let total : length (h.0 ++ old.words) - length old.words ≡ length h.0 = omega (arith, length-append h.0 old.words) in
    rw (h.1, total) (drop-append_seam h.0 old.words)

pub sought_back : (old new : AnsState) → Grows old new → sought (position_of old) new ≡ old
sought_back old new h = ap (λ (ws : List ℕ). let x : AnsState = record { head = old.head; words = ws } in x) (below_grown old new h)

pub held_less : (old new : AnsState) → Grows old new → length old.words ≤ length new.words
held_less old new h = omega (arith, ap length h.1, length-append h.0 old.words)
