-- Encodes write words before those that are there.
use Rattle.std.proofs.Common.{◌≡◌, ℕ, ◌-◌, ◌≤◌, List, [], ◌∷◌, ◌++◌, length, take, drop, refl, sym, ap, ◌∙◌, arith}
use Rattle.std.specs.Prelude.{reverse, map}
use Rattle.std.proofs.lemmas.List.{take-append-drop, take-take, length-take, reverse-append, length-reverse, length-map, length-drop, drop-map}
use Rattle.constriction_base.specs.Steps.{IsSizes}
use Rattle.constriction_stack.specs.Ans.{AnsState}
use Rattle.constriction_stack.specs.Positions.{Grows, sought}
use Rattle.constriction_stack.proofs.PositionsKept.{push_grows, grows_none, grows_more}
use Rattle.constriction_base.specs.Models.{Item, AreModels}
use Rattle.constriction_stack.specs.Symbols.{EncodesAll}
use Rattle.constriction_laws.proofs.of_stack.Choosing.{step_of}

pub encodes_grow : {S : Type 0} (w s : ℕ) → IsSizes w s → (items : List (Item S)) (old new : AnsState) → AreModels w items → EncodesAll w s items old new → Grows old new
encodes_grow w s z [] old new ms h = grows_none old new h
encodes_grow w s z (item ∷ items) old new ms h =
    let first = h.1 in
    let step = step_of w s item.model item.symbol first.0 first.1 ms.0 first.2 in
    grows_more old h.0 new (push_grows w s (record { precision = item.model.precision; left = first.0; p = first.1 }) old h.0 z step first.3)
    (encodes_grow w s z items h.0 new ms.1 h.2)

drop_first : {W : Type 0} (xs ys : List W) → drop (length xs) (xs ++ ys) ≡ ys
drop_first [] ys = refl
drop_first (x ∷ xs) ys = drop_first xs ys

-- the first items of a vector are the last words to be read
pub kept_words : {W : Type 0} (f : W → ℕ) (xs : List W) (n : ℕ) → n ≤ length xs
    → map f (reverse (take n xs)) ≡ drop (length (map f (reverse xs)) - n) (map f (reverse xs))
kept_words {W} f xs n h =
    let parts : reverse xs ≡ reverse (drop n xs) ++ reverse (take n xs) = ap (λ (ys : List W). reverse ys) (sym (take-append-drop n xs)) ∙ reverse-append (take n xs) (drop n xs) in
    let count : length (map f (reverse xs)) - n ≡ length (reverse (drop n xs)) = omega (arith, length-map (reverse xs) f, length-reverse xs, length-reverse (drop n xs), length-drop n xs) in
    let front : drop (length (reverse (drop n xs))) (reverse xs) ≡ reverse (take n xs) =
    ap (λ (ys : List W). drop (length (reverse (drop n xs))) ys) parts ∙ drop_first (reverse (drop n xs)) (reverse (take n xs)) in
    sym (drop-map f (length (map f (reverse xs)) - n) (reverse xs) ∙ ap (λ k. map f (drop k (reverse xs))) count ∙ ap (λ (ys : List W). map f ys) front)

-- a cursor over all words of a state, which stands behind them, goes to a position: that is the state that the position names
pub there_is_sought : {W : Type 0} (f : W → ℕ) (xs : List W) (place held head : ℕ) (old : AnsState) → place ≡ length xs → old.words ≡ map f (reverse (take place xs)) → held ≤ length xs
    → ◌≡◌ {A = AnsState} (record { head = head; words = map f (reverse (take held xs)) }) (sought (record { held = held; head = head }) old)
there_is_sought {W} f xs place held head old stands words within =
    let below : held ≤ length (take place xs) = omega (arith, within, stands, length-take place xs) in
    let inner : take held (take place xs) ≡ take held xs = take-take held place xs (omega (arith, within, stands)) in
    let kept : map f (reverse (take held xs)) ≡ drop (length old.words - held) old.words =
    ap (λ (ys : List W). map f (reverse ys)) (sym inner) ∙ kept_words f (take place xs) held below ∙ ap (λ (ws : List ℕ). drop (length ws - held) ws) (sym words) in
    ap (λ (ws : List ℕ). let x : AnsState = record { head = head; words = ws } in x) kept
