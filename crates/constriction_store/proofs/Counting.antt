-- Counts of symbols, one chunk more at a time.
use Rattle.std.proofs.Common.{◌≡◌, ◌∙◌, ℕ, zero, suc, ◌+◌, ◌<◌, ◌≤◌, List, [], ◌∷◌, ◌++◌, get_or, length, map, take, sym, ap, arith}
use Rattle.std.proofs.lemmas.List.{take_more}
use Rattle.constriction_store.specs.Chunks.{count_of}
use Rattle.constriction_store.specs.Stores.{Entry, EntriesWithin, total_of}

-- a list and the item at a place, as loops give it
pub taken_at : {X : Type 0} (xs : List X) (k : ℕ) (x : X) → k < length xs → x ≡ get_or xs k x → take (k + 1) xs ≡ take k xs ++ x ∷ []
taken_at xs k x inside is = take_more xs k x inside ∙ ap (λ y. take k xs ++ y ∷ []) (sym is)

module _ {X : Type 0} where
  count_append : (xs ys : List X) (f : X → List ℕ) → count_of (map f (xs ++ ys)) ≡ count_of (map f xs) + count_of (map f ys)
  count_append [] ys f = omega arith
  count_append (x ∷ xs) ys f = omega (arith, count_append xs ys f)

  pub counted_more : (xs : List X) (f : X → List ℕ) (k : ℕ) (x : X) → k < length xs → x ≡ get_or xs k x → count_of (map f (take (k + 1) xs)) ≡ count_of (map f (take k xs)) + length (f x)
  counted_more xs f k x inside is = ap (λ ys. count_of (map f ys)) (taken_at xs k x inside is) ∙ count_append (take k xs) (x ∷ []) f ∙ omega arith

  pub counted_le : (xs : List X) (f : X → List ℕ) (k : ℕ) → count_of (map f (take k xs)) ≤ count_of (map f xs)
  counted_le xs f zero = omega arith
  counted_le [] f (suc k) = omega arith
  counted_le (x ∷ xs) f (suc k) = omega (arith, counted_le xs f k)

module _ {X : Type 0} where
  total_append : (xs ys : List X) (f : X → Entry) → total_of (map f (xs ++ ys)) ≡ total_of (map f xs) + total_of (map f ys)
  total_append [] ys f = omega arith
  total_append (x ∷ xs) ys f = omega (arith, total_append xs ys f)

  pub totalled_more : (xs : List X) (f : X → Entry) (k : ℕ) (x : X) → k < length xs → x ≡ get_or xs k x → total_of (map f (take (k + 1) xs)) ≡ total_of (map f (take k xs)) + (f x).len
  totalled_more xs f k x inside is = ap (λ ys. total_of (map f ys)) (taken_at xs k x inside is) ∙ total_append (take k xs) (x ∷ []) f ∙ omega arith

  pub totalled_le : (xs : List X) (f : X → Entry) (k : ℕ) → total_of (map f (take k xs)) ≤ total_of (map f xs)
  totalled_le xs f zero = omega arith
  totalled_le [] f (suc k) = omega arith
  totalled_le (x ∷ xs) f (suc k) = omega (arith, totalled_le xs f k)

  places_append : (count : ℕ) (xs ys : List X) (f : X → Entry) → EntriesWithin count (map f xs) → EntriesWithin count (map f ys) → EntriesWithin count (map f (xs ++ ys))
  places_append count [] ys f all rest = rest
  places_append count (x ∷ xs) ys f all rest = (all.0, places_append count xs ys f all.1 rest)

  pub places_more : (count : ℕ) (xs : List X) (f : X → Entry) (k : ℕ) (x : X) → k < length xs → x ≡ get_or xs k x → EntriesWithin count (map f (take k xs)) → (f x).place ≤ count
      → EntriesWithin count (map f (take (k + 1) xs))
  places_more count xs f k x inside is all here = rw (taken_at xs k x inside is) (places_append count (take k xs) (x ∷ []) f all (here, tt))

  pub place_at : (count : ℕ) (xs : List X) (f : X → Entry) (k : ℕ) (x : X) → k < length xs → x ≡ get_or xs k x → EntriesWithin count (map f xs) → (f x).place ≤ count
  place_at count [] f k x inside is all = absurd (omega arith)
  place_at count (y ∷ xs) f zero x inside is all = rw is all.0
  place_at count (y ∷ xs) f (suc k) x inside is all = place_at count xs f k x (omega arith) is all.1
