-- What is left where the last word of a list was taken.
use Rattle.std.proofs.Common.{◌≡◌, ℕ, ◌+◌, ◌<◌, ◌≤◌, List, [], ◌∷◌, ◌++◌, length, take, drop, Option, Some, None, Ok, sym, ◌∙◌, arith, ap}
use Rattle.std.specs.Prelude.{reverse}
use Rattle.std.proofs.lemmas.List.{length-reverse, length-take, reverse-reverse}
use Rattle.constriction_base.specs.Backends.{Reads}
use Rattle.constriction_base.proofs.Ends.{reverse_push}

-- the word that was taken stands at the end again
pub put_back : {W : Type 0} (old new rest : List W) (w : W) → reverse old ≡ w ∷ rest → reverse new ≡ drop 1 (reverse old) → new ++ w ∷ [] ≡ old
put_back {W} old new rest w taken left =
    let turned : reverse (new ++ w ∷ []) ≡ reverse old = reverse_push new w ∙ (ap (λ (ws : List W). w ∷ ws) (left ∙ ap (λ (ws : List W). drop 1 ws) taken) ∙ sym taken) in
    sym (reverse-reverse (new ++ w ∷ [])) ∙ (ap reverse turned ∙ reverse-reverse old)

-- a read from before a place moves it back by one
pub moved_back : {W : Type 0} (E : Type 0) (xs ys : List W) (p q : ℕ) (r : Option W) → ys ≡ xs → 0 < p → p ≤ length xs →
    Reads {W = W} {E = E} (reverse (take p xs)) (Ok r) (reverse (take q ys)) → (p ≡ q + 1) × (q < length ys) × (length ys ≡ length xs)
moved_back E xs ys p q None same some fits (e, _) = absurd (omega (arith, ap length e, length-reverse (take p xs), length-take p xs))
moved_back E xs ys p q (Some w) same some fits e = (
  omega (arith, ap length same, ap length e, length-reverse (take p xs), length-take p xs, length-reverse (take q ys), length-take q ys),
  omega (arith, ap length same, ap length e, length-reverse (take p xs), length-take p xs, length-reverse (take q ys), length-take q ys),
  ap length same,
)
