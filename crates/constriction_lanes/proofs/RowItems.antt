-- Rows of items: their symbols and their models, an item at a position, and what holds of all items if it holds of each
-- row.
use Rattle.std.proofs.Common.{◌≡◌, ◌∙◌, ℕ, zero, suc, ◌+◌, ◌-◌, ◌*◌, ◌<◌, ◌≤◌, List, [], ◌∷◌, ◌++◌, length, drop, take, refl, sym, ap, subst, arith}
use Rattle.std.specs.List.{AllByRecursion}
use Rattle.std.proofs.lemmas.List.{drop-drop, drop-map, length-drop, take-append-drop, take-map}
use Rattle.constriction_base.specs.Models.{Item, Model, item_of, items_of, pairs_of}
use Rattle.constriction_interleaved.specs.Rows.{row}
use Rattle.constriction_inputs.specs.Items.{HasAt}

-- ---- symbols with one model, and symbols that each have a model
pub items_row : (model : Model ℕ) (count j : ℕ) (symbols : List ℕ) → row count j (items_of model symbols) ≡ items_of model (row count j symbols)
items_row model count j symbols =
    ap (λ (items : List (Item ℕ)). take count items) (drop-map (item_of model) (j * count) symbols) ∙ take-map (item_of model) count (drop (j * count) symbols)

module _ (precision : ℕ) where
  abbrev pub pairs : List ℕ → List (List (ℕ × ℕ × ℕ)) → List (Item ℕ)
  pairs symbols tables = pairs_of precision (λ (t : List (ℕ × ℕ × ℕ)). t) symbols tables

  pairs_of_none : (symbols : List ℕ) → pairs symbols [] ≡ []
  pairs_of_none [] = refl
  pairs_of_none (symbol ∷ symbols) = refl

  pairs_dropped : (k : ℕ) (symbols : List ℕ) (tables : List (List (ℕ × ℕ × ℕ))) → drop k (pairs symbols tables) ≡ pairs (drop k symbols) (drop k tables)
  pairs_dropped zero symbols tables = refl
  pairs_dropped (suc k) [] tables = refl
  pairs_dropped (suc k) (symbol ∷ symbols) [] = sym (pairs_of_none (drop k symbols))
  pairs_dropped (suc k) (symbol ∷ symbols) (table ∷ tables) = pairs_dropped k symbols tables

  pairs_taken : (count : ℕ) (symbols : List ℕ) (tables : List (List (ℕ × ℕ × ℕ))) → take count (pairs symbols tables) ≡ pairs (take count symbols) tables
  pairs_taken zero symbols tables = refl
  pairs_taken (suc count) [] tables = refl
  pairs_taken (suc count) (symbol ∷ symbols) [] = refl
  pairs_taken (suc count) (symbol ∷ symbols) (table ∷ tables) =
      ap (λ (items : List (Item ℕ)). item_of (record { precision = precision; table = table }) symbol ∷ items) (pairs_taken count symbols tables)

  pub pairs_row : (count j : ℕ) (symbols : List ℕ) (tables : List (List (ℕ × ℕ × ℕ))) → row count j (pairs symbols tables) ≡ pairs (row count j symbols) (drop (j * count) tables)
  pairs_row count j symbols tables =
      ap (λ (items : List (Item ℕ)). take count items) (pairs_dropped (j * count) symbols tables) ∙ pairs_taken count (drop (j * count) symbols) (drop (j * count) tables)

-- ---- an item of a row
has_taken : (items : List (Item ℕ)) (count k : ℕ) (holds : Item ℕ → Type 0) → k < count → HasAt items k holds → HasAt (take count items) k holds
has_taken [] count k holds lt at = absurd at
has_taken (item ∷ items) zero k holds lt at = absurd (omega arith)
has_taken (item ∷ items) (suc count) zero holds lt at = at
has_taken (item ∷ items) (suc count) (suc k) holds lt at = has_taken items count k holds (omega arith) at

has_dropped : (items : List (Item ℕ)) (first k : ℕ) (holds : Item ℕ → Type 0) → HasAt items (first + k) holds → HasAt (drop first items) k holds
has_dropped items zero k holds at = subst (λ (n : ℕ). HasAt items n holds) (omega arith) at
has_dropped [] (suc first) k holds at = absurd at
has_dropped (item ∷ items) (suc first) k holds at =
    let is : suc first + k ≡ suc (first + k) = omega arith in
    let there : HasAt (item ∷ items) (suc (first + k)) holds = subst (λ (n : ℕ). HasAt (item ∷ items) n holds) is at in
    has_dropped items first k holds there

pub has_in_row : (items : List (Item ℕ)) (first count k : ℕ) (holds : Item ℕ → Type 0) → k < count → HasAt items (first + k) holds → HasAt (take count (drop first items)) k holds
has_in_row items first count k holds lt at = has_taken (drop first items) count k holds lt (has_dropped items first k holds at)

pub at_row : (items : List (Item ℕ)) (first count rest : ℕ) (holds : Item ℕ → Type 0) → 0 < rest → rest ≤ count → HasAt items (first + rest - 1) holds
    → HasAt (take count (drop first items)) (rest - 1) holds
at_row items first count rest holds some within at =
    let same : first + rest - 1 ≡ first + (rest - 1) = omega (arith, some) in
    has_in_row items first count (rest - 1) holds (omega (arith, some, within)) (subst (λ (n : ℕ). HasAt items n holds) same at)

-- ---- all rows
all_joined : {A : Type 0} (holds : A → Type 0) (xs ys : List A) → AllByRecursion holds xs → AllByRecursion holds ys → AllByRecursion holds (xs ++ ys)
all_joined holds [] ys here there = there
all_joined holds (x ∷ xs) ys here there = (here.0, all_joined holds xs ys here.1 there)

row_next : {A : Type 0} (count j : ℕ) (xs : List A) → row count j (drop count xs) ≡ row count (suc j) xs
row_next {A} count j xs =
    let sum : count + j * count ≡ suc j * count = omega arith in
    ap (λ (ys : List A). take count ys) (drop-drop (j * count) count xs ∙ ap (λ (n : ℕ). drop n xs) sum)

pub all_rows : {A : Type 0} (holds : A → Type 0) (count n : ℕ) (xs : List A) → length xs ≡ n * count → ((j : ℕ) → j < n → AllByRecursion holds (row count j xs)) → AllByRecursion holds xs
all_rows holds count zero [] long each = tt
all_rows holds count zero (x ∷ xs) long each = absurd (omega arith)
all_rows {A} holds count (suc n) xs long each =
    let sum : suc n * count ≡ count + n * count = omega arith in
    let left : length (drop count xs) ≡ n * count = omega (arith, length-drop count xs, long, sum) in
    let others : AllByRecursion holds (drop count xs) =
    all_rows holds count n (drop count xs) left (λ (j : ℕ) (lt : j < n). subst (λ (ys : List A). AllByRecursion holds ys) (sym (row_next count j xs)) (each (suc j) (omega arith))) in
    let none : zero * count ≡ 0 = omega arith in
    let first : AllByRecursion holds (take count xs) = subst (λ (k : ℕ). AllByRecursion holds (take count (drop k xs))) none (each zero (omega arith)) in
    subst (λ (ys : List A). AllByRecursion holds ys) (take-append-drop count xs) (all_joined holds (take count xs) (drop count xs) first others)
