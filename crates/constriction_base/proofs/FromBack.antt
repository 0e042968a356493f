-- What an iterator over a slice gave from its back.
use Rattle.std.specs.Iterator.{Yields, Drains}
use Rattle.std.specs.Prelude.{reverse}
use Rattle.std.specs.Slice.Iter.{iter_rest, iter_steps_back}
use Rattle.std.proofs.Common.{◌≡◌, ◌∙◌, ℕ, Bor, Iter, List, [], ◌∷◌, ◌++◌, length, map, refl, sym, ap, arith, append_assoc}
use Rattle.std.proofs.lemmas.List.{reverse-append, reverse-reverse, append-nil}

-- from the back, the last items, in reverse
pub from_back : {A : Type 0} (i : Iter A) (xs : List (Bor A)) (j : Iter A) → Yields iter_steps_back i xs j → iter_rest i ≡ iter_rest j ++ reverse (map (λ x. x.now) xs)
from_back i [] j run = ap iter_rest run ∙ sym (append-nil (iter_rest j))
from_back {A} i (x ∷ xs) j run =
    run.1 ∙ ap (λ (ys : List A). ys ++ x.now ∷ []) (from_back run.0 xs j run.2)
    ∙ append_assoc (iter_rest j) (reverse (map (λ x. x.now) xs)) (x.now ∷ [])
    ∙ ap (λ (ys : List A). iter_rest j ++ ys) (sym (reverse-append (x.now ∷ []) (map (λ x. x.now) xs)))

pub none_left : {A : Type 0} (xs : List A) → length xs ≡ 0 → xs ≡ []
none_left [] is = refl
none_left (x ∷ xs) is = absurd (omega arith)

-- all of them, where it ended
pub all_from_back : {A : Type 0} (i : Iter A) (xs : List (Bor A)) → Drains iter_steps_back i xs → map (λ x. x.now) xs ≡ reverse (iter_rest i)
all_from_back {A} i xs run =
    let front = from_back i xs run.1.0 run.1.1 in
    let ended : iter_rest run.1.0 ≡ [] = none_left (iter_rest run.1.0) run.1.2.0 in
    let all : iter_rest i ≡ reverse (map (λ x. x.now) xs) = rw ended at front in
    sym (reverse-reverse (map (λ x. x.now) xs)) ∙ ap (λ (ys : List A). reverse ys) (sym all)
