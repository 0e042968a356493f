-- Quantized mixtures of a family's distributions, with a row of components for each symbol.
use Rattle.std.specs.Prelude.{◌≡◌, ℕ, ℤ, ◌*◌, ◌<◌, ◌≤◌, List, [], ◌∷◌, length, map, sum, take, drop, Option}
use Rattle.std.specs.List.{range_with_len, zip}
use Rattle.constriction_base.specs.Models.{Item, pairs_of}
use Rattle.constriction_models.specs.Mixtures.{Weighted, mixed}
use Rattle.constriction_models.specs.Quantized.{indexed}
use Rattle.constriction_models.specs.declared.families.Family.{Family}
use Rattle.constriction_inputs.specs.Coded.{Coded}
use Rattle.constriction_inputs.specs.Quantized.{AreAsMany, AreScaled, ByFamily, IsRange, below_by, family_of, symbols_in}

-- A caller's arguments for mixtures: components of a family, each with a location and a scale; the weight of each
-- component; and the number of components for each symbol (`width`).
pub record ByMixture : Type 0 where
  pub components : ByFamily
  pub weights : List ℕ
  pub width : ℕ

-- The row at index `place` of a list that has rows of `width` items, one after another.
abbrev pub row_at_index : {A : Type 0} → ℕ → ℕ → List A → List A
row_at_index width place list = take width (drop (width * place) list)

-- The list, or the one item alone if the list is empty.
abbrev pub or_lone : {A : Type 0} → List A → A → List A
or_lone [] lone = lone ∷ []
or_lone (item ∷ items) lone = item ∷ items

-- The components of a family with the given weights, locations and scales.
abbrev pub components_of : Option Family → List ℕ → List ℤ → List ℕ → List Weighted
components_of family weights locations scales =
    map (λ (part : ℕ × (ℤ × ℕ)). record { weight = part.0; below = below_by family part.1.0 part.1.1 }) (zip weights (zip locations scales))

-- The components for the symbol at index `place` of the caller's list.
abbrev pub components_at : ByMixture → ℕ → List Weighted
components_at by place =
    components_of (family_of by.components.family) (row_at_index by.width place by.weights) (row_at_index by.width place by.components.locations) (row_at_index by.width place by.components.scales)

-- The tables of the first `count` mixtures. Their symbols are indices into the range, and index 0 is the first symbol.
abbrev pub mixture_tables : ℕ → ByMixture → ℕ → List (List (ℕ × ℕ × ℕ))
mixture_tables precision by count =
    map (λ place. indexed precision (mixed (components_at by place)) by.components.min (symbols_in by.components.min by.components.max)) (range_with_len 0 count)

-- Each symbol with the table of its own mixture.
abbrev pub mixture_items : ℕ → ByMixture → List ℕ → List (Item ℕ)
mixture_items precision by symbols = pairs_of precision (λ table. table) symbols (mixture_tables precision by (length symbols))

-- ---- what a call requires
-- There is a row of weights, of locations and of scales for each symbol.
abbrev pub AreInRows : ByMixture → ℕ → Type 0
AreInRows by count = (length by.weights ≡ by.width * count) × AreAsMany by.components (length by.weights)

-- The weights add up to at least 1 and at most 2 ^ 32.
abbrev pub IsMixable : List ℕ → Type 0
IsMixable weights = (0 < sum weights) × (sum weights ≤ 4294967296)

-- The weights of each row add up to at least 1 and at most 2 ^ 32.
abbrev pub AreMixable : ℕ → ℕ → List ℕ → Type 0
AreMixable width count weights = (place : ℕ) → place < count → IsMixable (row_at_index width place weights)

-- A family has the caller's family number, and all scales are above 0. Each row has at least one component, and its
-- weights are mixable.
abbrev pub MakeMixtures : ByMixture → ℕ → Type 0
MakeMixtures by count = AreScaled by.components.family by.components.scales × (0 < by.width) × AreMixable by.width count by.weights

-- The symbols with their own mixtures as models, and the requirements on the caller's arguments.
abbrev pub by_mixture : ByMixture → List ℕ → Coded
by_mixture by symbols = record {
  items_at = λ precision. mixture_items precision by symbols;
  lengths_fit = AreInRows by (length symbols);
  intervals_fit = λ precision. IsRange precision by.components.min by.components.max;
  weights_fit = λ precision. MakeMixtures by (length symbols);
}

-- The same for arguments that no record collects: the family's number, the range from `min` to `max`, and rows of
-- `width` weights, locations and scales.
abbrev pub in_mixture : ℕ → ℤ → ℤ → ℕ → List ℕ → List ℤ → List ℕ → List ℕ → Coded
in_mixture family min max width weights locations scales = by_mixture (record {
  components = record { family = family; min = min; max = max; locations = locations; scales = scales };
  weights = weights;
  width = width;
})
