-- Quantized distributions of a family, with a location and a scale for each symbol.
use Rattle.std.specs.Prelude.{◌≡◌, ℕ, zero, suc, ℤ, pos, ◌+◌, ◌^◌, ◌<◌, ◌+ℤ◌, ◌-ℤ◌, ◌<ℤ◌, List, [], ◌∷◌, length, map, unsigned_abs, Option, Some, None, IsSome}
use Rattle.std.specs.List.{AllByRecursion, zip}
use Rattle.constriction_base.specs.Models.{Item, pairs_of}
use Rattle.constriction_base.specs.Tables.{Has}
use Rattle.constriction_models.specs.Families.{family_below}
use Rattle.constriction_models.specs.Quantized.{indexed}
use Rattle.constriction_models.specs.declared.families.Family.{Family}
use Rattle.constriction_models.specs.declared.families.Family.TheVariants.{Gaussian, Laplace, Logistic}
use Rattle.constriction_inputs.specs.Coded.{Coded}
use Rattle.constriction_inputs.specs.declared.models.families.Families.{Families}

-- The family with the given number, or `None` if no family has it.
abbrev pub family_of : ℕ → Option Family
family_of zero = Some Gaussian
family_of (suc zero) = Some Laplace
family_of (suc (suc zero)) = Some Logistic
family_of (suc (suc (suc other))) = None

-- The distribution function with a family, a location and a scale, in units of 2 ^ -32. Without a family, it is 0.
abbrev pub below_by : Option Family → ℤ → ℕ → ℤ → ℕ
below_by (Some family) location scale = family_below family location scale
below_by None location scale = λ place. 0

-- A caller's arguments for models of a family: the family's number, the first and the last symbol of a range, and a
-- location and a scale for each symbol of the caller's list, in multiples of 2 ^ -16.
pub record ByFamily : Type 0 where
  pub family : ℕ
  pub min : ℤ
  pub max : ℤ
  pub locations : List ℤ
  pub scales : List ℕ

-- The arguments that a value of the type `Families` has.
abbrev pub family_arguments : Families → ByFamily
family_arguments given = record { family = given.family; min = given.min; max = given.max; locations = given.locations.now; scales = given.scales.now }

-- The number of symbols in the range from `min` to `max`.
abbrev pub symbols_in : ℤ → ℤ → ℕ
symbols_in min max = unsigned_abs (max -ℤ min) + 1

-- The table for each location and its scale. Its symbols are indices into the range, and index 0 is the first symbol.
abbrev pub tables_by : ℕ → Option Family → ℤ → ℕ → List ℤ → List ℕ → List (List (ℕ × ℕ × ℕ))
tables_by precision family min count locations scales =
    map (λ (at : ℤ × ℕ). indexed precision (below_by family at.0 at.1) min count) (zip locations scales)

-- The tables that the caller's arguments make.
abbrev pub family_tables : ℕ → ByFamily → List (List (ℕ × ℕ × ℕ))
family_tables precision by = tables_by precision (family_of by.family) by.min (symbols_in by.min by.max) by.locations by.scales

-- Each symbol with the table of its own location and scale.
abbrev pub family_items : ℕ → ByFamily → List ℕ → List (Item ℕ)
family_items precision by symbols = pairs_of precision (λ table. table) symbols (family_tables precision by)

-- ---- what a call requires
-- There are `count` locations and `count` scales.
abbrev pub AreAsMany : ByFamily → ℕ → Type 0
AreAsMany by count = (length by.locations ≡ count) × (length by.scales ≡ count)

-- The range has at least two and at most 2 ^ precision symbols.
abbrev pub IsRange : ℕ → ℤ → ℤ → Type 0
IsRange precision min max = (min <ℤ max) × (max <ℤ (min +ℤ pos (2 ^ precision)))

-- A family has the number `family`, and each scale is above 0.
abbrev pub AreScaled : ℕ → List ℕ → Type 0
AreScaled family scales = IsSome (family_of family) × AllByRecursion (λ scale. 0 < scale) scales

-- The symbols with the models of their locations and scales, and the requirements on the caller's arguments.
abbrev pub by_family : ByFamily → List ℕ → Coded
by_family by symbols = record {
  items_at = λ precision. family_items precision by symbols;
  lengths_fit = AreAsMany by (length symbols);
  intervals_fit = λ precision. IsRange precision by.min by.max;
  weights_fit = λ precision. AreScaled by.family by.scales;
}

-- The same for arguments that no record collects: the family's number, the range from `min` to `max`, and a location
-- and a scale for each symbol.
abbrev pub in_family : ℕ → ℤ → ℤ → List ℤ → List ℕ → List ℕ → Coded
in_family family min max locations scales = by_family (record { family = family; min = min; max = max; locations = locations; scales = scales })

-- Each symbol is an index into the range.
abbrev pub AreIndicesInRange : ℤ → ℤ → List ℕ → Type 0
AreIndicesInRange min max symbols = AllByRecursion (λ symbol. symbol < symbols_in min max) symbols

-- ---- intervals
-- `lefts` has the start of each item's interval, and `ps` has its length.
abbrev pub AreIntervalsOf : List (Item ℕ) → List ℕ → List ℕ → Type 0
AreIntervalsOf [] [] [] = Unit {0}
AreIntervalsOf (item ∷ items) (left ∷ lefts) (p ∷ ps) = Has item.model.table item.symbol left p × AreIntervalsOf items lefts ps
AreIntervalsOf items lefts ps = ⊥
