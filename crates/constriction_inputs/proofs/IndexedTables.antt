-- Tables by index: the one at a place, and which symbols they know.
use Rattle.std.proofs.Common.{◌≡◌, ◌∙◌, ℕ, zero, suc, ◌+◌, ◌<◌, List, [], ◌∷◌, length, map, drop, get_or, refl, sym, ap, arith}
use Rattle.std.specs.List.{AllByRecursion, range_with_len}
use Rattle.std.proofs.lemmas.List.{get_or-map, length-map}
use Rattle.std.proofs.lemmas.List.FromFn.{get_or-map-range_with_len, length-map-range_with_len}
use Rattle.constriction_base.specs.Models.{AreKnown, Item, Knows, item_of, pairs_of}
use Rattle.constriction_base.specs.Tables.{table_of}
use Rattle.constriction_inputs.specs.Indexed.{index_items, index_tables}
use Rattle.constriction_inputs.specs.Mixtures.{row_at_index}
use Rattle.constriction_inputs.specs.Weights.{weights_model}
use Rattle.constriction_inputs.proofs.Pairs.{pairs_left}

-- what holds of all holds of each
pub all_at : {A : Type 0} (holds : A → Type 0) (xs : List A) (k : ℕ) (d : A) → AllByRecursion holds xs → k < length xs → holds (get_or xs k d)
all_at holds [] k d all within = absurd (omega arith)
all_at holds (x ∷ xs) zero d all within = all.0
all_at holds (x ∷ xs) (suc k) d all within = all_at holds xs k d all.1 (omega arith)

-- ---- models by index
module _ {M : Type 0} (table : M → List (ℕ × ℕ × ℕ)) (models : List M) where
  -- the table of an index of a list of models
  abbrev selected : List ℕ → List (List (ℕ × ℕ × ℕ))
  selected indexes = map (λ (index : ℕ). get_or (map table models) index []) indexes

  pub selected_counted : (indexes : List ℕ) → length (selected indexes) ≡ length indexes
  selected_counted indexes = length-map indexes (λ (index : ℕ). get_or (map table models) index [])

  pub selected_at : (indexes : List ℕ) (place : ℕ) (m : M) (d : List (ℕ × ℕ × ℕ)) → place < length indexes → get_or indexes place 0 < length models
      → m ≡ get_or models (get_or indexes place 0) m → get_or (selected indexes) place d ≡ table m
  selected_at indexes place m d inside within is =
      get_or-map (λ (index : ℕ). get_or (map table models) index []) indexes place 0 d inside
      ∙ (get_or-map table models (get_or indexes place 0) m [] within ∙ ap table (sym is))

-- ---- tables of rows
module _ (width : ℕ) (ws : List ℕ) where
  abbrev row_table : ℕ → List (ℕ × ℕ × ℕ)
  row_table index = table_of (row_at_index width index ws)

  -- models of all rows give the tables that the indexes select
  selected_rows : {M : Type 0} (table : M → List (ℕ × ℕ × ℕ)) (models : List M) (tables : ℕ) (indexes : List ℕ)
      → map table models ≡ map row_table (range_with_len 0 tables) → AllByRecursion (λ (index : ℕ). index < tables) indexes → selected table models indexes ≡ index_tables width ws indexes
  selected_rows table models tables [] made all = refl
  selected_rows table models tables (index ∷ indexes) made all =
      let here : get_or (map table models) index [] ≡ row_table index =
      ap (λ (ts : List (List (ℕ × ℕ × ℕ))). get_or ts index []) made ∙ get_or-map-range_with_len row_table 0 tables index index [] all.0 (omega arith) in
      rw (here, selected_rows table models tables indexes made all.1) refl

  -- how many models there are
  pub models_counted : {M : Type 0} (table : M → List (ℕ × ℕ × ℕ)) (models : List M) (tables : ℕ) → map table models ≡ map row_table (range_with_len 0 tables) → length models ≡ tables
  models_counted table models tables made = sym (length-map models table) ∙ (ap length made ∙ length-map-range_with_len row_table 0 tables)

  module _ (precision : ℕ) (indexes : List ℕ) where
    -- as symbols each under a table of its own
    pub items_listed : {M : Type 0} (table : M → List (ℕ × ℕ × ℕ)) (models : List M) (tables : ℕ) (symbols : List ℕ)
        → map table models ≡ map row_table (range_with_len 0 tables) → AllByRecursion (λ (index : ℕ). index < tables) indexes
        → index_items precision width ws indexes symbols ≡ pairs_of precision (λ (t : List (ℕ × ℕ × ℕ)). t) symbols (selected table models indexes)
    items_listed table models tables symbols made all =
        ap (λ (ts : List (List (ℕ × ℕ × ℕ))). pairs_of precision (λ (t : List (ℕ × ℕ × ℕ)). t) symbols ts) (sym (selected_rows table models tables indexes made all))

    -- the items from a place on: the first of them, and the others
    abbrev pub items_from : List ℕ → ℕ → List (Item ℕ)
    items_from symbols i = pairs_of precision (λ (t : List (ℕ × ℕ × ℕ)). t) (drop i symbols) (drop i (index_tables width ws indexes))

    items_left : (symbols : List ℕ) (i : ℕ) → i < length symbols → i < length indexes
        → items_from symbols i ≡ item_of (weights_model precision (row_at_index width (get_or indexes i 0) ws)) (get_or symbols i 0) ∷ items_from symbols (i + 1)
    items_left symbols i inside within =
        pairs_left precision (λ (t : List (ℕ × ℕ × ℕ)). t) symbols (index_tables width ws indexes) i (row_table (get_or indexes i 0)) inside (omega (arith, length-map indexes row_table, within))
        (sym (get_or-map row_table indexes i 0 (row_table (get_or indexes i 0)) within))

    pub known_split : (symbols : List ℕ) (i : ℕ) → i < length symbols → i < length indexes → AreKnown (items_from symbols i)
        → Knows (weights_model precision (row_at_index width (get_or indexes i 0) ws)) (get_or symbols i 0) × AreKnown (items_from symbols (i + 1))
    known_split symbols i inside within all = rw (items_left symbols i inside within) at all

    pub known_joined : (symbols : List ℕ) (i : ℕ) → i < length symbols → i < length indexes → Knows (weights_model precision (row_at_index width (get_or indexes i 0) ws)) (get_or symbols i 0)
        → AreKnown (items_from symbols (i + 1)) → AreKnown (items_from symbols i)
    known_joined symbols i inside within first others = rw (items_left symbols i inside within) (first, others)
