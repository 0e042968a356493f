-- Symbols that each have a model of their own, as pairs: how many there are, the one at a place, one more, and those that are left.
use Rattle.std.proofs.Common.{◌≡◌, ◌∙◌, ℕ, ◌+◌, ◌<◌, ◌≤◌, List, [], ◌∷◌, ◌++◌, length, drop, take, get_or, min, zip, refl, sym, ap, arith}
use Rattle.std.proofs.lemmas.List.{drop_more, get_or-map, length-map}
use Rattle.std.proofs.lemmas.Slice.Zip.{get_or-zip, length-zip}
use Rattle.constriction_base.specs.Models.{Item, item_of, pairs_of}

module _ {M : Type 0} (precision : ℕ) (table : M → List (ℕ × ℕ × ℕ)) where
  -- a symbol under a model
  abbrev pair_item : ℕ × M → Item ℕ
  pair_item pair = item_of (record { precision = precision; table = table pair.1 }) pair.0

  abbrev pairs : List ℕ → List M → List (Item ℕ)
  pairs xs ms = pairs_of precision table xs ms

  pub pairs_counted : (xs : List ℕ) (ms : List M) → length (pairs xs ms) ≡ min (length xs) (length ms)
  pairs_counted xs ms = length-map (zip xs ms) pair_item ∙ length-zip xs ms

  pub pair_at : (xs : List ℕ) (ms : List M) (k : ℕ) (m : M) (d : Item ℕ) → k < length xs → k < length ms → m ≡ get_or ms k m → get_or (pairs xs ms) k d ≡ pair_item (get_or xs k 0, m)
  pair_at xs ms k m d within within' is =
      get_or-map pair_item (zip xs ms) k (0, m) d (omega (arith, length-zip xs ms))
      ∙ ap pair_item (get_or-zip xs ms k (0, m) within within' ∙ ap (λ (n : M). (get_or xs k 0, n)) (sym is))

  -- one more, behind those of the first models
  pub pairs_next : (xs : List ℕ) (ms : List M) (x : ℕ) (m : M) → length xs < length ms → m ≡ get_or ms (length xs) m → pairs (xs ++ x ∷ []) ms ≡ pairs xs ms ++ pair_item (x, m) ∷ []
  pairs_next xs [] x m within is = absurd (omega arith)
  pairs_next [] (n ∷ ms) x m within is = rw is refl
  pairs_next (y ∷ xs) (n ∷ ms) x m within is = ap (λ (items : List (Item ℕ)). pair_item (y, n) ∷ items) (pairs_next xs ms x m (omega arith) is)

  -- the first of those that are left, and the others
  pub pairs_left : (xs : List ℕ) (ms : List M) (k : ℕ) (m : M) → k < length xs → k < length ms → m ≡ get_or ms k m
      → pairs (drop k xs) (drop k ms) ≡ pair_item (get_or xs k 0, m) ∷ pairs (drop (k + 1) xs) (drop (k + 1) ms)
  pairs_left xs ms k m within within' is = rw (drop_more xs k 0 within, drop_more ms k m within', sym is) refl

  -- those of the first symbols
  pub pairs_begin : (xs ys : List ℕ) (ms : List M) → length xs ≤ length ms → take (length xs) (pairs (xs ++ ys) ms) ≡ pairs xs ms
  pairs_begin [] ys ms within = refl
  pairs_begin (x ∷ xs) ys [] within = absurd (omega arith)
  pairs_begin (x ∷ xs) ys (m ∷ ms) within = ap (λ (items : List (Item ℕ)). pair_item (x, m) ∷ items) (pairs_begin xs ys ms (omega arith))
