-- Tables of mixtures: how many there are, and the one at a place; rows of components, and which symbols tables know.
use Rattle.std.proofs.Common.{◌≡◌, ◌∙◌, ℕ, ◌+◌, ◌-◌, ◌*◌, ◌<◌, ◌≤◌, suc, List, [], ◌∷◌, ◌++◌, ℤ, pos, Some, length, take, drop, get_or, refl, sym, arith}
use Rattle.std.specs.List.{sum, zip}
use Rattle.std.proofs.Math.Nat.{mul-le-mul_left, mul-suc}
use Rattle.std.proofs.lemmas.List.{get_or-drop, get_or-take, length-drop, length-take-le, map_push, take_more}
use Rattle.std.proofs.lemmas.List.FromFn.{get_or-map-range_with_len, length-map-range_with_len}
use Rattle.std.proofs.lemmas.List.Sums.{sum_by-cons}
use Rattle.std.proofs.lemmas.Slice.Zip.{length-zip}
use Rattle.constriction_base.proofs.WordLists.{zip_push}
use Rattle.constriction_models.specs.Mixtures.{Weighted, mixed, total_weight, weighted}
use Rattle.constriction_models.specs.Quantized.{indexed}
use Rattle.constriction_models.specs.declared.families.Family.{Family}
use Rattle.constriction_models.specs.declared.mixture.Component.{Component}
use Rattle.constriction_inputs.specs.Mixtures.{ByMixture, components_at, components_of, mixture_tables, row_at_index}
use Rattle.constriction_inputs.specs.Quantized.{below_by, symbols_in}

-- ---- tables
pub mixtures_counted : (precision : ℕ) (by : ByMixture) (count : ℕ) → length (mixture_tables precision by count) ≡ count
mixtures_counted precision by count =
    length-map-range_with_len (λ (place : ℕ). indexed precision (mixed (components_at by place)) by.components.min (symbols_in by.components.min by.components.max)) 0 count

pub mixture_at : (precision : ℕ) (by : ByMixture) (count place : ℕ) (d : List (ℕ × ℕ × ℕ)) → place < count
    → get_or (mixture_tables precision by count) place d ≡ indexed precision (mixed (components_at by place)) by.components.min (symbols_in by.components.min by.components.max)
mixture_at precision by count place d within =
    get_or-map-range_with_len (λ (at : ℕ). indexed precision (mixed (components_at by at)) by.components.min (symbols_in by.components.min by.components.max)) 0 count place place d within (omega arith)

-- ---- rows
-- a row ends within the rows
pub row_ends : (width place count : ℕ) → place < count → width * place + width ≤ width * count
row_ends width place count within = let next : suc place ≤ count = omega (arith, within) in omega (arith, mul-le-mul_left width next, mul-suc width place)

-- it is what lies between its start and its end
pub row_between : {A : Type 0} (width place start : ℕ) (list : List A) → start ≡ width * place → take (start + width - start) (drop start list) ≡ row_at_index width place list
row_between width place start list is = let long : start + width - start ≡ width = omega arith in rw (long, is) refl

-- it is as long as it is wide
pub row_long : {A : Type 0} (width place : ℕ) (list : List A) → width * place + width ≤ length list → length (row_at_index width place list) ≡ width
row_long width place list fit = length-take-le width (drop (width * place) list) (omega (arith, length-drop (width * place) list, fit))

-- scales of a row are above 0 where all are
pub row_scaled : (width place : ℕ) (scales : List ℕ) → width * place + width ≤ length scales → ((k : ℕ) → k < length scales → 0 < get_or scales k 0)
    → (k : ℕ) → k < length (row_at_index width place scales) → 0 < get_or (row_at_index width place scales) k 0
row_scaled width place scales fit all k inside =
    let short : k < width = omega (arith, inside, row_long width place scales fit) in
    let some = all (width * place + k) (omega (arith, short, fit)) in
    rw (get_or-take width (drop (width * place) scales) k 0 short, get_or-drop (width * place) scales k 0) some

-- ---- components
abbrev weigh : {D : Type 0} → (D → ℤ → ℕ) → Component D → Weighted
weigh below c = record { weight = c.weight; below = below c.distribution }

abbrev part : Family → ℕ × (ℤ × ℕ) → Weighted
part family p = record { weight = p.0; below = below_by (Some family) p.1.0 p.1.1 }

-- one more
pub component_more : {D : Type 0} (below : D → ℤ → ℕ) (family : Family) (weights : List ℕ) (locations : List ℤ) (scales : List ℕ) (components : List (Component D)) (i : ℕ) (component : Component D)
    → i < length weights → length locations ≡ length weights → length scales ≡ length weights → component.weight ≡ get_or weights i 0
    → below component.distribution ≡ below_by (Some family) (get_or locations i (pos 0)) (get_or scales i 0)
    → weighted below components ≡ components_of (Some family) (take i weights) (take i locations) (take i scales)
    → weighted below (components ++ component ∷ []) ≡ components_of (Some family) (take (i + 1) weights) (take (i + 1) locations) (take (i + 1) scales)
component_more below family weights locations scales components i component within many same weight_is below_is before =
    let w = get_or weights i 0 in
    let l = get_or locations i (pos 0) in
    let s = get_or scales i 0 in
    let front = zip (take i locations) (take i scales) in
    let short : length (take i locations) ≡ length (take i scales) = length-take-le i locations (omega arith) ∙ sym (length-take-le i scales (omega arith)) in
    let long : length (take i weights) ≡ length front =
    omega (arith, length-take-le i weights (omega arith), length-zip (take i locations) (take i scales), length-take-le i locations (omega arith), length-take-le i scales (omega arith)) in
    let inner = zip_push (take i locations) (take i scales) l s short in
    let outer = zip_push (take i weights) front w (l, s) long in
    map_push (weigh below) components component
    ∙ rw (
      take_more weights i 0 within,
      take_more locations i (pos 0) (omega arith),
      take_more scales i 0 (omega arith),
      inner,
      outer,
      map_push (part family) (zip (take i weights) front) (w, (l, s)),
      before,
      weight_is,
      below_is,
    ) refl

-- their weights are those given
pub total_of : (family : Family) (weights : List ℕ) (locations : List ℤ) (scales : List ℕ) → length locations ≡ length weights → length scales ≡ length weights
    → total_weight (components_of (Some family) weights locations scales) ≡ sum weights
total_of family [] locations scales many same = refl
total_of family (w ∷ weights) [] scales many same = absurd (omega arith)
total_of family (w ∷ weights) (l ∷ locations) [] many same = absurd (omega arith)
total_of family (w ∷ weights) (l ∷ locations) (s ∷ scales) many same =
    omega (
      arith,
      sum_by-cons (λ (p : Weighted). p.weight) (part family (w, (l, s))) (components_of (Some family) weights locations scales),
      sum_by-cons (λ (n : ℕ). n) w weights,
      total_of family weights locations scales (omega arith) (omega arith),
    )
