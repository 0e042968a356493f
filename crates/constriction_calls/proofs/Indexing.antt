-- A loop that writes one item of a list for each item of another, at the end of what it has done.
use Rattle.std.proofs.Common.{◌≡◌, ◌∙◌, ◌+◌, ◌<◌, ℕ, List, [], ◌∷◌, ◌++◌, ap, arith, get_or, length, map, set, sym, take}
use Rattle.std.proofs.lemmas.List.{map-append, take_more, take_more_set}

module _ {A B Y : Type 0} (of : B → Y) (at : A → B) (xs : List A) (i : ℕ) (d : A) (inside : i < length xs) where
  read : map of (map at (take (i + 1) xs)) ≡ map of (map at (take i xs)) ++ of (at (get_or xs i d)) ∷ []
  read = ap (λ (zs : List A). map of (map at zs)) (take_more xs i d inside)
      ∙ (ap (map of) (map-append at (take i xs) (get_or xs i d ∷ [])) ∙ map-append of (map at (take i xs)) (at (get_or xs i d) ∷ []))

  -- the list has the values themselves
  pub listed_more : (ys : List Y) (y : Y) → take i ys ≡ map of (map at (take i xs)) → y ≡ of (at (get_or xs i d)) → length ys ≡ length xs
      → take (i + 1) (set ys i y) ≡ map of (map at (take (i + 1) xs))
  listed_more ys y before here same =
      take_more_set ys i y (omega (arith, inside, same)) ∙ ((λ k. before k ++ here k ∷ []) ∙ sym read)

  -- the list has values of which these are the numbers
  pub numbered_more : {X : Type 0} (number : X → Y) (ys : List X) (y : X) → map number (take i ys) ≡ map of (map at (take i xs)) → number y ≡ of (at (get_or xs i d))
      → length ys ≡ length xs → map number (take (i + 1) (set ys i y)) ≡ map of (map at (take (i + 1) xs))
  numbered_more number ys y before here same =
      ap (map number) (take_more_set ys i y (omega (arith, inside, same))) ∙ (map-append number (take i ys) (y ∷ []) ∙ ((λ k. before k ++ here k ∷ []) ∙ sym read))
