use Rattle.std.proofs.Common.{◌≡◌, ◌∙◌, ℕ, ◌^◌, List, ◌++◌, length, drop, refl, ap, subst}
use Rattle.std.specs.Int.Digits.{digits_of}
use Rattle.constriction_base.specs.Digits.{fixed_digits}
use Rattle.constriction_stack.specs.Ans.{AnsState}
use Rattle.constriction_stack.specs.Guards.{without}
use Rattle.constriction_laws.proofs.stack.guards.shown_words_go.Goals as goal
use Rattle.constriction_base.proofs.Guards.{fixed-length}
use Rattle.std.proofs.Math.Seq.{drop-append_seam}

-- where the words in front are taken off, those below are left
below : (head count : ℕ) (front words : List ℕ) → length front ≡ count
    → ◌≡◌ {A = AnsState} (record { head = head; words = drop count (front ++ words) }) (record { head = head; words = words })
below head count front words is =
    let state : List ℕ → AnsState = λ ws. record { head = head; words = ws } in
    ap state (subst (λ k. drop k (front ++ words) ≡ words) is (drop-append_seam front words))

pub returns-clause-compressed : goal.returns-clause-compressed
returns-clause-compressed c = λ w state shown is.
    ap (λ (x : AnsState). without (length (digits_of (2 ^ w) state.head)) x) is
    ∙ below state.head (length (digits_of (2 ^ w) state.head)) (digits_of (2 ^ w) state.head) state.words refl

pub returns-clause-binary : goal.returns-clause-binary
returns-clause-binary c = λ w m state shown is.
    ap (λ (x : AnsState). without m x) is
    ∙ below state.head m (fixed_digits (2 ^ w) m state.head) state.words (fixed-length (2 ^ w) m state.head)
