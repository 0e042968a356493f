-- Tables of locations and scales: how many there are, which symbols they know, and the intervals of symbols.
use Rattle.std.proofs.Common.{◌≡◌, ◌∙◌, ℕ, zero, suc, ◌+◌, ◌<◌, List, [], ◌∷◌, Option, None, ℤ, pos, length, map, take, set, get_or, refl, sym, ap, subst, arith, rules, inl, inr}
use Rattle.std.specs.Prelude.{IfNone, IsSome, Some}
use Rattle.std.specs.List.{AllByRecursion, zip}
use Rattle.std.proofs.lemmas.Bool.{cases_lt}
use Rattle.std.proofs.lemmas.List.{get_or-map, length-map, take_all}
use Rattle.std.proofs.lemmas.Slice.Zip.{get_or-zip, length-zip}
use Rattle.constriction_base.specs.Models.{AreKnown, Item, item_of, pairs_of}
use Rattle.constriction_base.specs.Tables.{Has}
use Rattle.constriction_models.specs.Quantized.{indexed}
use Rattle.constriction_models.specs.declared.families.Family.{Family}
use Rattle.constriction_models.specs.laws.Indexing.{indexed_has, indexed_impossible}
use Rattle.constriction_inputs.specs.Quantized.{AreIntervalsOf, below_by, tables_by}
use Rattle.constriction_inputs.proofs.Pairs.{pair_at, pairs_counted}

-- ---- how many tables there are
pub tables_counted : (precision : ℕ) (family : Option Family) (min : ℤ) (count : ℕ) (locations : List ℤ) (scales : List ℕ) → length locations ≡ length scales
    → length (tables_by precision family min count locations scales) ≡ length locations
tables_counted precision family min count locations scales same =
    omega (arith, length-map (zip locations scales) (λ (at : ℤ × ℕ). indexed precision (below_by family at.0 at.1) min count), length-zip locations scales)

-- ---- the table at a place
pub table_at : (precision : ℕ) (family : Option Family) (min : ℤ) (count : ℕ) (locations : List ℤ) (scales : List ℕ) (place : ℕ) (d : List (ℕ × ℕ × ℕ)) → place < length locations → length locations ≡ length scales
    → get_or (tables_by precision family min count locations scales) place d ≡ indexed precision (below_by family (get_or locations place (pos 0)) (get_or scales place 0)) min count
table_at precision family min count locations scales place d within same =
    let entries = λ (at : ℤ × ℕ). indexed precision (below_by family at.0 at.1) min count in
    get_or-map entries (zip locations scales) place (pos 0, 0) d (omega (arith, length-zip locations scales))
    ∙ ap entries (get_or-zip locations scales place (pos 0, 0) within (omega arith))

-- ---- which symbols are known: the places in the range, whatever cuts it
module _ {X : Type 0} (precision : ℕ) (below : X → ℤ → ℕ) (min : ℤ) (count : ℕ) where
  abbrev tables_at : List X → List (List (ℕ × ℕ × ℕ))
  tables_at xs = map (λ (x : X). indexed precision (below x) min count) xs

  pub places_known : (xs : List X) (symbols : List ℕ)
      → AllByRecursion (λ (symbol : ℕ). symbol < count) symbols → AreKnown (pairs_of precision (λ (t : List (ℕ × ℕ × ℕ)). t) symbols (tables_at xs))
  places_known xs [] all = tt
  places_known [] (symbol ∷ symbols) all = tt
  places_known (x ∷ xs) (symbol ∷ symbols) all = ((_, _, indexed_has precision (below x) min count symbol _ _ all.0 refl refl), places_known xs symbols all.1)

  pub known_places : (xs : List X) (symbols : List ℕ) → length symbols ≡ length xs
      → AreKnown (pairs_of precision (λ (t : List (ℕ × ℕ × ℕ)). t) symbols (tables_at xs)) → AllByRecursion (λ (symbol : ℕ). symbol < count) symbols
  known_places xs [] many all = tt
  known_places [] (symbol ∷ symbols) many all = absurd (omega arith)
  known_places (x ∷ xs) (symbol ∷ symbols) many all = (
    elim (cases_lt symbol count) [
      | inl below_it ↦ below_it
      | inr past ↦ absurd (indexed_impossible precision (below x) min count symbol past all.0.0 all.0.1 all.0.2)
    ],
    known_places xs symbols (omega arith) all.1,
  )

-- ---- intervals
-- one interval more
interval_put : {P : Type 0} (number : P → ℕ) (items : List (Item ℕ)) (lefts ps : List P) (i : ℕ) (item : Item ℕ) (left p : P) → i < length items → i < length lefts → i < length ps
    → get_or items i item ≡ item → Has item.model.table item.symbol (number left) (number p) → AreIntervalsOf (take i items) (map number (take i lefts)) (map number (take i ps))
    → AreIntervalsOf (take (suc i) items) (map number (take (suc i) (set lefts i left))) (map number (take (suc i) (set ps i p)))
interval_put number [] lefts ps i item left p w w' w'' is has before = absurd (omega arith)
interval_put number (x ∷ items) [] ps i item left p w w' w'' is has before = absurd (omega arith)
interval_put number (x ∷ items) (a ∷ lefts) [] i item left p w w' w'' is has before = absurd (omega arith)
interval_put number (x ∷ items) (a ∷ lefts) (b ∷ ps) zero item left p w w' w'' is has before = (subst (λ (y : Item ℕ). Has y.model.table y.symbol (number left) (number p)) (sym is) has, tt)
interval_put number (x ∷ items) (a ∷ lefts) (b ∷ ps) (suc i) item left p w w' w'' is has before =
    (before.0, interval_put number items lefts ps i item left p (omega arith) (omega arith) (omega arith) is has before.1)

module _ {P : Type 0} (number : P → ℕ) (precision : ℕ) (family : Option Family) (min : ℤ) (count : ℕ) (locations : List ℤ) (scales symbols : List ℕ) (many : length locations ≡ length symbols) (same : length scales ≡ length symbols) where
  abbrev tables : List (List (ℕ × ℕ × ℕ))
  tables = tables_by precision family min count locations scales

  abbrev intervals_items : List (Item ℕ)
  intervals_items = pairs_of precision (λ (t : List (ℕ × ℕ × ℕ)). t) symbols tables

  as_many : length tables ≡ length symbols
  as_many = tables_counted precision family min count locations scales (many ∙ sym same) ∙ many

  all_counted : length intervals_items ≡ length symbols
  all_counted = omega (arith, pairs_counted precision (λ (t : List (ℕ × ℕ × ℕ)). t) symbols tables, as_many)

  pub interval_more : (lefts ps : List P) (i : ℕ) (location : ℤ) (left p : P) → i < length symbols → i < length lefts → i < length ps → location ≡ get_or locations i (pos 0)
      → Has (indexed precision (below_by family location (get_or scales i 0)) min count) (get_or symbols i 0) (number left) (number p)
      → AreIntervalsOf (take i intervals_items) (map number (take i lefts)) (map number (take i ps))
      → AreIntervalsOf (take (i + 1) intervals_items) (map number (take (i + 1) (set lefts i left))) (map number (take (i + 1) (set ps i p)))
  interval_more lefts ps i location left p within within' within'' is has before =
      let entries = λ (at : ℤ × ℕ). indexed precision (below_by family at.0 at.1) min count in
      let table = entries (location, get_or scales i 0) in
      let item : Item ℕ = item_of (record { precision = precision; table = table }) (get_or symbols i 0) in
      let here : get_or tables i table ≡ table =
      get_or-map entries (zip locations scales) i (pos 0, 0) table (omega (arith, length-zip locations scales))
      ∙ (ap entries (get_or-zip locations scales i (pos 0, 0) (omega arith) (omega arith)) ∙ ap (λ (z : ℤ). entries (z, get_or scales i 0)) (sym is)) in
      let at = pair_at precision (λ (t : List (ℕ × ℕ × ℕ)). t) symbols tables i table item within (omega (arith, as_many)) (sym here) in
      let next : i + 1 ≡ suc i = omega arith in
      rw next (interval_put number intervals_items lefts ps i item left p (omega (arith, all_counted)) within' within'' at has before)

  -- all of them
  pub intervals_all : (lefts ps : List P) (i : ℕ) → i ≡ length symbols → length lefts ≡ length symbols → length ps ≡ length symbols
      → AreIntervalsOf (take i intervals_items) (map number (take i lefts)) (map number (take i ps)) → AreIntervalsOf intervals_items (map number lefts) (map number ps)
  intervals_all lefts ps i is lefts_are ps_are all =
      rw (take_all i intervals_items (omega (arith, all_counted)), take_all i lefts (omega arith), take_all i ps (omega arith)) at all

-- what is not none is some
pub some_unless : {T : Type 0} (r : Option T) (A : Type 0) → IfNone r A → (A → ⊥) → IsSome r
some_unless (Some x) A h n = search rules
some_unless None A h n = absurd (n h)
