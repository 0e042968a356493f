-- Symbols with what their models are made of, as symbols each under a table of its own.
use Rattle.std.proofs.Common.{◌≡◌, ◌∙◌, ◌<◌, ℕ, zero, suc, List, [], ◌∷◌, length, drop, get_or, take, refl, sym, ap, arith}
use Rattle.std.proofs.lemmas.List.{get_or-replicate, length-replicate}
use Rattle.std.specs.Prelude.{replicate}
use Rattle.constriction_base.specs.Models.{Item, item_of, items_of, pairs_of}
use Rattle.constriction_inputs.specs.Rows.{row_items, row_tables}
use Rattle.constriction_inputs.specs.Weights.{weights_model}

-- under one table, as often as there are symbols
pub items_listed : (precision count : ℕ) (symbols : List ℕ) (table made : List (ℕ × ℕ × ℕ)) → length symbols ≡ count → made ≡ table
    → items_of (record { precision = precision; table = table }) symbols ≡ pairs_of precision (λ (t : List (ℕ × ℕ × ℕ)). t) symbols (replicate count made)
items_listed precision count [] table made many is = refl
items_listed precision zero (symbol ∷ symbols) table made many is = absurd (omega arith)
items_listed precision (suc count) (symbol ∷ symbols) table made many is =
    ap (λ (items : List (Item ℕ)). item_of (record { precision = precision; table = table }) symbol ∷ items) (items_listed precision count symbols table made (omega arith) is)
    ∙ ap (λ (t : List (ℕ × ℕ × ℕ)). item_of (record { precision = precision; table = t }) symbol ∷ pairs_of precision (λ (t : List (ℕ × ℕ × ℕ)). t) symbols (replicate count made)) (sym is)

-- the table at an index of such a list
pub alike_at : {A : Type 0} (count place : ℕ) (x other : A) → place < length (replicate count x) → get_or (replicate count x) place other ≡ x
alike_at count place x other within = get_or-replicate count place x other (rw (length-replicate count x) at within)

-- ---- under rows of weights
-- how many tables there are
pub tables_counted : (width count : ℕ) (weights : List ℕ) → length (row_tables width count weights) ≡ count
tables_counted width zero weights = refl
tables_counted width (suc count) weights = ap suc (tables_counted width count (drop width weights))

rows_paired : (precision width : ℕ) (weights symbols : List ℕ)
    → row_items precision width weights symbols ≡ pairs_of precision (λ (t : List (ℕ × ℕ × ℕ)). t) symbols (row_tables width (length symbols) weights)
rows_paired precision width weights [] = refl
rows_paired precision width weights (symbol ∷ symbols) =
    ap (λ (items : List (Item ℕ)). item_of (weights_model precision (take width weights)) symbol ∷ items) (rows_paired precision width (drop width weights) symbols)

pub rows_listed : (precision width count : ℕ) (weights symbols : List ℕ) (made : List (List (ℕ × ℕ × ℕ))) → length symbols ≡ count → made ≡ row_tables width count weights
    → row_items precision width weights symbols ≡ pairs_of precision (λ (t : List (ℕ × ℕ × ℕ)). t) symbols made
rows_listed precision width count weights symbols made many is =
    rows_paired precision width weights symbols
    ∙ (ap (λ (n : ℕ). pairs_of precision (λ (t : List (ℕ × ℕ × ℕ)). t) symbols (row_tables width n weights)) many
    ∙ ap (λ (ts : List (List (ℕ × ℕ × ℕ))). pairs_of precision (λ (t : List (ℕ × ℕ × ℕ)). t) symbols ts) (sym is))
