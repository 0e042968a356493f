-- Intervals at the positions of a list.
use Rattle.std.proofs.Common.{◌≡◌, ℕ, zero, suc, ◌+◌, ◌<◌, ◌≤◌, ◌^◌, List, [], ◌∷◌, length, get_or, refl, arith}
use Rattle.constriction_base.specs.Models.{AreKnown}
use Rattle.constriction_base.proofs.Entries.{has_at}
use Rattle.constriction_base.specs.laws.Weights.{weights_make_table}
use Rattle.constriction_inputs.specs.Intervals.{AreIntervals, interval_items, interval_weights}
use Rattle.constriction_inputs.specs.Items.{HasAt, HasInterval}

-- each of them isn't empty, and ends at or below 2 ^ precision
pub each_within : (precision : ℕ) (lefts ps : List ℕ) → length lefts ≡ length ps → AreIntervals precision lefts ps → (k : ℕ) → k < length lefts
    → (0 < get_or ps k 0) × (get_or lefts k 0 + get_or ps k 0 ≤ 2 ^ precision)
each_within precision [] ps same all k within = absurd (omega arith)
each_within precision (left ∷ lefts) [] same all k within = absurd (omega arith)
each_within precision (left ∷ lefts) (p ∷ ps) same all zero within = (all.0.not_empty, all.0.inside)
each_within precision (left ∷ lefts) (p ∷ ps) same all (suc k) within = each_within precision lefts ps (omega arith) all.1 k (omega arith)

-- how many items there are
pub items_counted : (precision : ℕ) (lefts ps : List ℕ) → length lefts ≡ length ps → length (interval_items precision lefts ps) ≡ length lefts
items_counted precision [] ps same = refl
items_counted precision (left ∷ lefts) [] same = absurd (omega arith)
items_counted precision (left ∷ lefts) (p ∷ ps) same = omega (arith, items_counted precision lefts ps (omega arith))

-- the one at a position
pub interval_at : (precision bits : ℕ) (lefts ps : List ℕ) (k : ℕ) → (1 ≤ precision) × (precision ≤ bits) → length lefts ≡ length ps → k < length lefts
    → 0 < get_or ps k 0 → get_or lefts k 0 + get_or ps k 0 ≤ 2 ^ precision
    → HasAt (interval_items precision lefts ps) k (HasInterval precision bits (get_or lefts k 0) (get_or ps k 0))
interval_at precision bits [] ps k sized same within some inside = absurd (omega arith)
interval_at precision bits (left ∷ lefts) [] k sized same within some inside = absurd (omega arith)
interval_at precision bits (left ∷ lefts) (p ∷ ps) zero sized same within some inside = (
  refl,
  record {
    sized = sized;
    lawful = weights_make_table precision (interval_weights precision left p) (omega (arith, inside));
    has = has_at 0 0 1 (interval_weights precision left p) 1 left p (omega arith) some refl (omega arith) refl;
  },
)
interval_at precision bits (left ∷ lefts) (p ∷ ps) (suc k) sized same within some inside = interval_at precision bits lefts ps k sized (omega arith) (omega arith) some inside

-- each is known, as symbol 1
pub intervals_known : (precision : ℕ) (lefts ps : List ℕ) → AreIntervals precision lefts ps → AreKnown (interval_items precision lefts ps)
intervals_known precision [] ps all = tt
intervals_known precision (left ∷ lefts) [] all = tt
intervals_known precision (left ∷ lefts) (p ∷ ps) all =
    ((left, p, has_at 0 0 1 (interval_weights precision left p) 1 left p (omega arith) all.0.not_empty refl (omega arith) refl), intervals_known precision lefts ps all.1)
