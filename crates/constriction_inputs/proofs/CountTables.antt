-- Tables of rows of counts: how many there are, the one at a place, and which symbols they know.
use Rattle.std.proofs.Common.{◌≡◌, ◌∙◌, ℕ, zero, suc, ◌+◌, ◌-◌, ◌*◌, ◌^◌, ◌<◌, ◌≤◌, List, [], ◌∷◌, length, map, drop, get_or, ap, sym, subst, inl, inr, arith}
use Rattle.std.specs.List.{AllByRecursion, range_with_len}
use Rattle.std.proofs.lemmas.Bool.{cases_lt}
use Rattle.std.proofs.lemmas.List.{length-take}
use Rattle.std.proofs.lemmas.List.FromFn.{get_or-map-range_with_len, length-map-range_with_len}
use Rattle.constriction_base.specs.Models.{AreKnown, pairs_of}
use Rattle.constriction_base.specs.Tables.{Has}
use Rattle.constriction_models.specs.Categorical.{MakeCategorical, categorical}
use Rattle.constriction_models.specs.laws.Categorical.{below_is_within, categorical_impossible, categorical_is_table, categorical_known}
use Rattle.constriction_inputs.specs.Counts.{count_items, count_tables}
use Rattle.constriction_inputs.specs.Items.{IsEntryOf}
use Rattle.constriction_inputs.specs.Mixtures.{row_at_index}
use Rattle.constriction_inputs.proofs.MixtureTables.{row_ends, row_long}

module _ (precision width : ℕ) (counts : List ℕ) where
  abbrev table : ℕ → List (ℕ × ℕ × ℕ)
  table place = categorical precision (row_at_index width place counts)

  pub tables_counted : (number : ℕ) → length (count_tables precision width number counts) ≡ number
  tables_counted number = length-map-range_with_len table 0 number

  pub table_at : (number place : ℕ) (d : List (ℕ × ℕ × ℕ)) → place < number → get_or (count_tables precision width number counts) place d ≡ table place
  table_at number place d within = get_or-map-range_with_len table 0 number place place d within (omega arith)

  -- an interval in the table of the row at a place
  pub entry_listed : (number place bits symbol left p : ℕ) → place < number → 1 ≤ precision → precision < bits → MakeCategorical precision (row_at_index width place counts)
      → Has (table place) symbol left p → IsEntryOf precision bits (get_or (count_tables precision width number counts) place []) symbol left p
  entry_listed number place bits symbol left p within positive fits made has =
      let row : List ℕ = row_at_index width place counts in
      let entry : IsEntryOf precision bits (table place) symbol left p = record {
        sized = (positive, below_is_within precision bits fits);
        lawful = categorical_is_table precision (2 ^ precision - length row) row (omega (arith, made.few)) made.some;
        has = has;
      } in
      subst (λ (t : List (ℕ × ℕ × ℕ)). IsEntryOf precision bits t symbol left p) (sym (table_at number place [] within)) entry

  -- as symbols each under a table of its own
  pub items_listed : (number : ℕ) (symbols : List ℕ) (made : List (List (ℕ × ℕ × ℕ))) → length symbols ≡ number → made ≡ count_tables precision width number counts
      → count_items precision width counts symbols ≡ pairs_of precision (λ (t : List (ℕ × ℕ × ℕ)). t) symbols made
  items_listed number symbols made many is =
      ap (λ (n : ℕ). pairs_of precision (λ (t : List (ℕ × ℕ × ℕ)). t) symbols (count_tables precision width n counts)) many
      ∙ ap (λ (ts : List (List (ℕ × ℕ × ℕ))). pairs_of precision (λ (t : List (ℕ × ℕ × ℕ)). t) symbols ts) (sym is)

  -- the rows from a place on know the symbols below their width
  below_known : (from left : ℕ) (symbols : List ℕ) → width * (from + left) ≤ length counts → AllByRecursion (λ (symbol : ℕ). symbol < width) symbols
      → AreKnown (pairs_of precision (λ (t : List (ℕ × ℕ × ℕ)). t) symbols (map table (range_with_len from left)))
  below_known from left [] fit all = tt
  below_known from zero (symbol ∷ symbols) fit all = tt
  below_known from (suc left) (symbol ∷ symbols) fit all =
      let next : from + suc left ≡ from + 1 + left = omega arith in
      let ends = row_ends width from (from + suc left) (omega arith) in
      let long = row_long width from counts (omega (arith, ends, fit)) in
      (categorical_known precision (row_at_index width from counts) symbol (omega (arith, long, all.0)), below_known (from + 1) left symbols (rw next at fit) all.1)

  -- and no others
  known_below : (from left : ℕ) (symbols : List ℕ) → length symbols ≤ left
      → AreKnown (pairs_of precision (λ (t : List (ℕ × ℕ × ℕ)). t) symbols (map table (range_with_len from left))) → AllByRecursion (λ (symbol : ℕ). symbol < width) symbols
  known_below from left [] many known = tt
  known_below from zero (symbol ∷ symbols) many known = absurd (omega arith)
  known_below from (suc left) (symbol ∷ symbols) many known = (
    elim (cases_lt symbol width) [
      | inl below ↦ below
      | inr past ↦ absurd (categorical_impossible precision (row_at_index width from counts) symbol (omega (arith, past, length-take width (drop (width * from) counts))) known.0.0 known.0.1 known.0.2)
    ],
    known_below (from + 1) left symbols (omega arith) known.1,
  )

  pub all_known : (symbols : List ℕ) → length counts ≡ width * length symbols → AllByRecursion (λ (symbol : ℕ). symbol < width) symbols
      → AreKnown (pairs_of precision (λ (t : List (ℕ × ℕ × ℕ)). t) symbols (count_tables precision width (length symbols) counts))
  all_known symbols fit all = (let none : 0 + length symbols ≡ length symbols = omega arith in below_known 0 (length symbols) symbols (rw none (omega (arith, fit))) all)

  pub known_all : (symbols : List ℕ) → AreKnown (pairs_of precision (λ (t : List (ℕ × ℕ × ℕ)). t) symbols (count_tables precision width (length symbols) counts))
      → AllByRecursion (λ (symbol : ℕ). symbol < width) symbols
  known_all symbols known = known_below 0 (length symbols) symbols (omega arith) known
