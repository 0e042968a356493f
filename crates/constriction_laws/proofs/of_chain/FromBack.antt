-- What iterators over slices gave from the back, up to an item.
use Rattle.std.specs.Iterator.{YieldsThen}
use Rattle.std.specs.Iterator.Adapters.{zip_steps_back}
use Rattle.std.specs.Slice.Iter.{iter_steps_back}
use Rattle.std.specs.declared.iter.Zip.{Zip}
use Rattle.std.proofs.Common.{◌≡◌, ◌∙◌, Bor, Iter, Some, List, [], ◌∷◌, ◌++◌, map, refl, ap, ap₂}
use Rattle.std.specs.Prelude.{reverse}
use Rattle.std.proofs.lemmas.List.{reverse-append, reverse-reverse}
use Rattle.constriction_laws.proofs.PairCalls.{SameLength, both_now, left_in, pairs_from_back, rest_of}

-- what is left, an item and those behind it, turned round
turned : {A : Type 0} (all mid rest given : List A) (x : A) → all ≡ mid ++ reverse given → mid ≡ rest ++ x ∷ [] → reverse all ≡ given ++ x ∷ reverse rest
turned {A} all mid rest given x is next =
    ap (λ (ys : List A). reverse ys) is ∙ (reverse-append mid (reverse given)
    ∙ ap₂ (λ (xs ys : List A). xs ++ ys) (reverse-reverse given) (ap (λ (ys : List A). reverse ys) next ∙ reverse-append rest (x ∷ [])))

-- the same of two slices
pub stopped_pairs : {A B : Type 0} (i : Zip (Iter A) (Iter B)) (xs : List (Bor A × Bor B)) (x : Bor A × Bor B) (rest : Zip (Iter A) (Iter B)) → SameLength i
    → YieldsThen (zip_steps_back iter_steps_back iter_steps_back left_in left_in) i xs (Some x) rest
    → reverse (rest_of i) ≡ map both_now xs ++ both_now x ∷ reverse (rest_of rest)
stopped_pairs i xs x rest same gave =
    let front = pairs_from_back i xs gave.0 same gave.1 in
    let last = pairs_from_back gave.0 (x ∷ []) rest front.1 (rest, gave.2, refl) in
    turned (rest_of i) (rest_of gave.0) (rest_of rest) (map both_now xs) (both_now x) front.0 last.0
