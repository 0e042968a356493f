-- Proofs that weights with the sum 2 ^ precision make a table, for the laws of `WeightTable`. They stand beside the
-- definitions, because a law may not cite the proofs of its own crate.
use Rattle.std.specs.Prelude.{sum}
use Rattle.std.proofs.Common.{◌≡◌, ℕ, zero, suc, ◌+◌, ◌-◌, ◌<◌, ◌≤◌, ◌^◌, List, [], ◌∷◌, inl, inr, length, get_or, map, refl, sym, ap, arith, add-one, pow_pos}
use Rattle.std.proofs.lemmas.Bool.{cases_lt}
use Rattle.std.proofs.lemmas.List.{get_or_default, get_or_past, length-map}
use Rattle.std.proofs.lemmas.List.Sums.{sum_by-cons}
use Rattle.constriction_base.specs.Tables.{Has, Follow, AreDistinct, IsTable, IsRising, table_from, table_of, weights_between}

-- If every interval is shorter than `high`, there are at least two intervals.
pub at_least_two : {S : Type 0} (high : ℕ) (es : List (S × ℕ × ℕ)) → 0 < high → Follow 0 es high → ((s : S) (l p : ℕ) → Has es s l p → p < high) → 2 ≤ length es
at_least_two high [] some f shorter = absurd (omega (arith, f, some))
at_least_two high (e ∷ []) some f shorter = absurd (omega (arith, f.1, f.2, shorter e.0 e.1 e.2 (inl refl)))
at_least_two high (e ∷ next ∷ es) some f shorter = omega arith

-- A symbol keeps its weight p if another weight, that of symbol s, is put in front of the list.
later : (s x p w : ℕ) (ws : List ℕ) → (s + 1 ≤ x) × (x - (s + 1) < length ws) × (0 < p) × (p ≡ get_or ws (x - (s + 1)) 0) → (s ≤ x) × (x - s < length (w ∷ ws)) × (0 < p) × (p ≡ get_or (w ∷ ws) (x - s) 0)
later s x p w ws h =
    let behind : x - s ≡ suc (x - (s + 1)) = omega (arith, h.0) in
    (omega (arith, h.0), rw behind (omega (arith, h.1)), h.2, rw behind h.3)

-- The length of each entry's interval is the weight of the entry's symbol, and is above 0.
pub has_only : (s low : ℕ) (ws : List ℕ) (x l p : ℕ) → Has (table_from s low ws) x l p → (s ≤ x) × (x - s < length ws) × (0 < p) × (p ≡ get_or ws (x - s) 0)
has_only s low [] x l p h = absurd h
has_only s low (zero ∷ ws) x l p h =
    let more = has_only (s + 1) low ws x l p h in
    later s x p 0 ws more
has_only s low (suc w ∷ ws) x l p (inl e) =
    let symbol : s ≡ x = ap (λ (y : ℕ × ℕ × ℕ). y.0) e in
    let weight : suc w ≡ p = ap (λ (y : ℕ × ℕ × ℕ). y.2) e in
    let none : x - s ≡ 0 = omega arith in
    (omega arith, rw none (omega arith), omega arith, rw none (sym weight))
has_only s low (suc w ∷ ws) x l p (inr h) =
    later s x p (suc w) ws (has_only (s + 1) (low + suc w) ws x l p h)

-- The intervals of the entries lie one after another.
pub follow_on : (s low high : ℕ) (ws : List ℕ) → high ≡ low + sum ws → Follow low (table_from s low ws) high
follow_on s low high [] e = omega arith
follow_on s low high (zero ∷ ws) e = follow_on (s + 1) low high ws (omega (arith, sum_by-cons (λ (y : ℕ). y) 0 ws))
follow_on s low high (suc w ∷ ws) e =
    (refl, omega arith, follow_on (s + 1) (low + suc w) high ws (omega (arith, sum_by-cons (λ (y : ℕ). y) (suc w) ws)))

-- No symbol has two entries.
pub are_distinct : (s low : ℕ) (ws : List ℕ) → AreDistinct (table_from s low ws)
are_distinct s low [] = tt
are_distinct s low (zero ∷ ws) = are_distinct (s + 1) low ws
are_distinct s low (suc w ∷ ws) =
    (λ l p h. let more = has_only (s + 1) (low + suc w) ws s l p h in omega (arith, more.0), are_distinct (s + 1) (low + suc w) ws)

-- Weights with the sum 2 ^ precision make a table of that precision.
pub weights_make_table : (precision : ℕ) (ws : List ℕ) → sum ws ≡ 2 ^ precision → IsTable precision (table_of ws)
weights_make_table precision ws e = record { follow = follow_on 0 0 (2 ^ precision) ws (omega arith); distinct = are_distinct 0 0 ws }

-- A weight is the distance from the start of its interval to its end.
pub weight_at : (starts : List ℕ) (high k : ℕ) → k < length starts → get_or (weights_between starts high) k 0 ≡ get_or starts (suc k) high - get_or starts k 0
weight_at [] high k h = absurd (omega arith)
weight_at (low ∷ []) high zero h = refl
weight_at (low ∷ []) high (suc k) h = absurd (omega arith)
weight_at (low ∷ next ∷ starts) high zero h = refl
weight_at (low ∷ next ∷ starts) high (suc k) h = weight_at (next ∷ starts) high k (omega arith)

-- There is one weight for each start.
pub length-weights_between : (starts : List ℕ) (high : ℕ) → length (weights_between starts high) ≡ length starts
length-weights_between [] high = refl
length-weights_between (low ∷ []) high = refl
length-weights_between (low ∷ next ∷ starts) high = ap suc (length-weights_between (next ∷ starts) high)

-- The weights add up to the distance from the first start to the end.
pub sum_between : (starts : List ℕ) (high : ℕ) → ((j : ℕ) → j < length starts → get_or starts j 0 ≤ get_or starts (suc j) high) → 0 < length starts → get_or starts 0 0 + sum (weights_between starts high) ≡ high
sum_between [] high r h = absurd (omega arith)
sum_between (low ∷ []) high r h = omega (arith, r 0 (omega arith))
sum_between (low ∷ next ∷ starts) high r h =
    let more = sum_between (next ∷ starts) high (λ j l. r (suc j) (omega arith)) (omega arith) in
    let first : low ≤ next = r 0 (omega arith) in
    omega (arith, more, sum_by-cons (λ (y : ℕ). y) (next - low) (weights_between (next ∷ starts) high))

-- An interval before the last one ends at the next start.
pub ends_inside : (starts : List ℕ) (high k j : ℕ) → j ≡ k + 1 → j < length starts → get_or starts (suc k) high ≡ get_or starts j 0
ends_inside starts high k j e h = rw (e, add-one) (get_or_default starts (suc k) high 0 (omega arith))

-- The last interval ends at high.
pub ends_at : (starts : List ℕ) (high k : ℕ) → length starts ≤ k + 1 → get_or starts (suc k) high ≡ high
ends_at starts high k h = get_or_past starts (suc k) high (omega arith)

-- ---- rising starts
-- Rising starts make a table.
pub starts_make_table : {W : Type 0} (number : W → ℕ) (precision : ℕ) (starts : List W) → 0 < length starts
    → IsRising (map number starts) (2 ^ precision) → IsTable precision (table_of (weights_between (map number starts) (2 ^ precision)))
starts_make_table number precision starts some rising =
    let any : 0 < length (map number starts) = omega (arith, length-map starts number, some) in
    weights_make_table precision (weights_between (map number starts) (2 ^ precision)) (omega (arith, rising.first, sum_between (map number starts) (2 ^ precision) rising.rising any))

-- If the last of the intervals between rising starts is shorter than `limit`, every interval is shorter than `limit`.
shorter : (starts : List ℕ) (high limit k l p : ℕ) → IsRising starts high → high ≤ limit → high - get_or starts (length starts - 1) 0 < limit
    → Has (table_of (weights_between starts high)) k l p → p < limit
shorter starts high limit k l p rising within last entry =
    let only = has_only 0 0 (weights_between starts high) k l p entry in
    let same : k - 0 ≡ k = omega arith in
    let inside : k < length starts = omega (arith, rw same at only.1, length-weights_between starts high) in
    let weight : p ≡ get_or (weights_between starts high) k 0 = rw same at only.3 in
    elim (cases_lt (k + 1) (length starts)) [
      | inl more ↦ omega (arith, weight, weight_at starts high k inside, ends_inside starts high k (k + 1) refl more, rising.below (k + 1) more)
      | inr end ↦ (
          let place : length starts - 1 ≡ k = omega (arith, inside) in
          omega (arith, weight, weight_at starts high k inside, ends_at starts high k end, rw place at last))
    ]

-- If the precision is all bits of a word, there are at least two entries. A single interval of all numbers would have a
-- length that doesn't fit a word.
pub two_entries : {W : Type 0} (number : W → ℕ) (precision bits : ℕ) (starts : List W) → 0 < length starts
    → IsRising (map number starts) (2 ^ precision) → 2 ^ precision - get_or (map number starts) (length starts - 1) 0 < 2 ^ bits
    → precision ≡ bits → 2 ≤ length (table_of (weights_between (map number starts) (2 ^ precision)))
two_entries number precision bits starts some rising last all =
    let places : List ℕ = map number starts in
    let limit : 2 ^ bits ≡ 2 ^ precision = sym (ap (λ (n : ℕ). 2 ^ n) all) in
    let table = starts_make_table number precision starts some rising in
    let end : 2 ^ precision - get_or places (length places - 1) 0 < 2 ^ precision = rw (length-map starts number) (rw limit at last) in
    at_least_two (2 ^ precision) _ (pow_pos precision) table.follow
    (λ s l p entry. shorter places (2 ^ precision) (2 ^ precision) s l p rising (omega arith) end entry)
