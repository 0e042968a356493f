-- Counts of floats by shifts, over whole numbers.
use Rattle.std.proofs.Common.{◌≡◌, ℕ, zero, suc, ◌+◌, ◌-◌, ◌*◌, ◌/◌, ◌%◌, ◌^◌, ◌<◌, ◌≤◌, ◌⊎◌, List, [], ◌∷◌, ◌++◌, length, get_or, map, take, set, min, max, refl, sym, ap, ◌∙◌, inl, inr, arith, lit<, true, false}
use Rattle.std.specs.List.{fold, list_all, sum}
use lib.Count.{count_leading_zeros}
use Rattle.std.proofs.Math.Nat.{mod-eq_of_lt, mod-le, div-eq_of_lt, mul-div-mul_right, le-max_left, le-max_right, min-eq_left, min-eq_right, max-eq_left, max-eq_right, mul-le-mul_right, le_of_mul-le-mul_right, div-div-eq-div-mul}
use Rattle.std.proofs.lemmas.Bool.{cases_lt, cases_order}
use Rattle.std.proofs.lemmas.Bool.Decides.{nat_tests}
use Rattle.std.proofs.lemmas.Nat.{pow_pos, pow-add, mod_below, div-add-mod', leading_top}
use Rattle.constriction_base.proofs.Sizes.{pow_le}
use Rattle.std.proofs.lemmas.List.{map_push, take_all, take_more, take_more_set}
use Rattle.constriction_models.proofs.Dividing.{quotient_of}
use Rattle.constriction_models.specs.Floats.{float_bits, significand, exponent, units, float_units, greatest_bits, greatest_units, binary_length, row_length, nearest, float_count, weight_count, weight_counts, counts_at, quick_bits, quick_counts, is_probability, IsScale}

-- ---- the nearest whole number
pub nearest_down : (n d : ℕ) → 2 * (n % d) < d → nearest n d ≡ n / d
unfolding nearest
nearest_down n d h = grind (arith, nat_tests)

pub nearest_up : (n d : ℕ) → d < 2 * (n % d) → nearest n d ≡ n / d + 1
unfolding nearest
nearest_up n d h = grind (arith, nat_tests)

pub nearest_even : (n d : ℕ) → 2 * (n % d) ≡ d → nearest n d ≡ n / d + n / d % 2
unfolding nearest
nearest_even n d h = grind (arith, nat_tests)

-- the code's form of it
pub nearest_sum : (n d : ℕ) → 0 < d → (2 * n + (d - 1) + n / d % 2) / d / 2 ≡ nearest n d
nearest_sum n d some =
    let q : ℕ = n / d in
    let o : ℕ = n / d % 2 in
    let whole : q * d + n % d ≡ n = div-add-mod' n d in
    let low : n % d < d = mod_below n d some in
    let odd : o < 2 = mod_below q 2 (lit< tt) in
    let both = div-div-eq-div-mul (2 * n + (d - 1) + o) d 2 in
    elim (cases_order (2 * (n % d)) d) [
      | inl half ↦ elim (cases_lt o 1) [
        | inl none ↦ both ∙ sym (quotient_of (2 * n + (d - 1) + o) (d * 2) q (omega arith) (omega arith)) ∙ omega (arith, nearest_even n d half)
        | inr one ↦ both ∙ sym (quotient_of (2 * n + (d - 1) + o) (d * 2) (q + 1) (omega arith) (omega arith)) ∙ omega (arith, nearest_even n d half)
      ]
      | inr (inl less) ↦ both ∙ sym (quotient_of (2 * n + (d - 1) + o) (d * 2) q (omega arith) (omega arith)) ∙ omega (arith, nearest_down n d less)
      | inr (inr more) ↦ both ∙ sym (quotient_of (2 * n + (d - 1) + o) (d * 2) (q + 1) (omega arith) (omega arith)) ∙ omega (arith, nearest_up n d more)
    ]

-- a common factor
rest_scaled : (n d k : ℕ) → 0 < k → 0 < d → (n * k) % (d * k) ≡ n % d * k
rest_scaled n d k some some_d =
    let q : n * k / (d * k) ≡ n / d = mul-div-mul_right n d some in
    let left = div-add-mod' (n * k) (d * k) in
    let right = ap (λ (x : ℕ). x * k) (div-add-mod' n d) in
    let same = ap (λ (x : ℕ). x * (d * k)) q in
    omega (arith, left, right, same)

pub nearest_scaled : (n d k : ℕ) → 0 < k → 0 < d → nearest (n * k) (d * k) ≡ nearest n d
nearest_scaled n d k some some_d =
    let q : n * k / (d * k) ≡ n / d = mul-div-mul_right n d some in
    let r : (n * k) % (d * k) ≡ n % d * k = rest_scaled n d k some some_d in
    elim (cases_order (2 * (n % d)) d) [
      | inl half ↦
          let e : 2 * (n % d) * k ≡ d * k = ap (λ (x : ℕ). x * k) half in
          nearest_even (n * k) (d * k) (omega (arith, r, e)) ∙ ap (λ (x : ℕ). x + x % 2) q ∙ sym (nearest_even n d half)
      | inr (inl less) ↦
          let e : suc (2 * (n % d)) * k ≤ d * k = mul-le-mul_right k less in
          nearest_down (n * k) (d * k) (omega (arith, r, e)) ∙ q ∙ sym (nearest_down n d less)
      | inr (inr more) ↦
          let e : suc d * k ≤ 2 * (n % d) * k = mul-le-mul_right k more in
          nearest_up (n * k) (d * k) (omega (arith, r, e)) ∙ ap (λ (x : ℕ). x + 1) q ∙ sym (nearest_up n d more)
    ]

-- less than a half
pub nearest_none : (n d : ℕ) → 2 * n < d → nearest n d ≡ 0
nearest_none n d h =
    let same : n % d ≡ n = mod-eq_of_lt (omega arith) in
    let none : n / d ≡ 0 = div-eq_of_lt (omega arith) in
    nearest_down n d (omega arith) ∙ none

-- at most a whole number that is no less
pub nearest_most : (n d q : ℕ) → 0 < d → n ≤ q * d → nearest n d ≤ q
nearest_most n d q some h =
    let whole : n / d * d + n % d ≡ n = div-add-mod' n d in
    let low : n % d < d = mod_below n d some in
    let odd : n / d % 2 < 2 = mod_below (n / d) 2 (lit< tt) in
    elim (cases_lt (n / d) q) [
      | inl less ↦ elim (cases_order (2 * (n % d)) d) [
        | inl half ↦ omega (arith, nearest_even n d half)
        | inr (inl down) ↦ omega (arith, nearest_down n d down)
        | inr (inr up) ↦ omega (arith, nearest_up n d up)
      ]
      | inr from ↦
          let e : q * d ≤ n / d * d = mul-le-mul_right d from in
          let none : n % d ≡ 0 = omega arith in
          let most : n / d * d ≤ q * d = omega arith in
          omega (arith, nearest_down n d (omega arith), le_of_mul-le-mul_right {k = d} most some)
    ]

-- ---- a float's parts
pub significand_small : (c : ℕ) → c < 4503599627370496 → significand c ≡ c
unfolding significand
significand_small c h = grind (arith, nat_tests)

pub significand_large : (c : ℕ) → 4503599627370496 ≤ c → significand c ≡ 4503599627370496 + c % 4503599627370496
unfolding significand
significand_large c h = grind (arith, nat_tests)

exponent_small : (c : ℕ) → c < 4503599627370496 → exponent c ≡ 1
unfolding exponent
exponent_small c h =
    let none : c / 4503599627370496 ≡ 0 = div-eq_of_lt h in
    max-eq_right (omega (arith, none))

exponent_large : (c : ℕ) → 4503599627370496 ≤ c → exponent c ≡ c / 4503599627370496
unfolding exponent
exponent_large c h = max-eq_left (omega arith)

-- a significand has 53 bits, and all of them where the exponent is above 1
pub record AreParts (c : ℕ) : Type 0 where
  pub short : significand c < 9007199254740992
  pub some : 1 ≤ exponent c
  pub full : 1 < exponent c → 4503599627370496 ≤ significand c
  pub is : units c ≡ significand c * 2 ^ (exponent c - 1)

units_are : (c : ℕ) → units c ≡ significand c * 2 ^ (exponent c - 1)
unfolding units
units_are c = refl

pub are_parts : (c : ℕ) → AreParts c
are_parts c = elim (cases_lt c 4503599627370496) [
  | inl small ↦
      let m = significand_small c small in
      let e = exponent_small c small in
      record { short = omega arith; some = omega arith; full = λ h. absurd (omega (arith, h)); is = units_are c }
  | inr large ↦
      let m = significand_large c large in
      let e = exponent_large c large in
      record { short = omega arith; some = omega arith; full = λ h. omega arith; is = units_are c }
]

pub exponent_few : (c : ℕ) → c < 9218868437227405312 → exponent c ≤ 2046
exponent_few c h = elim (cases_lt c 4503599627370496) [
  | inl small ↦ omega (arith, exponent_small c small)
  | inr large ↦ omega (arith, exponent_large c large)
]

pub significand_some : (c : ℕ) → 0 < c → 0 < significand c
significand_some c h = elim (cases_lt c 4503599627370496) [
  | inl small ↦ omega (arith, significand_small c small)
  | inr large ↦ omega (arith, significand_large c large)
]

-- the order of bits is that of the parts
parts_order : (a b : ℕ) → a ≤ b → (exponent a < exponent b) ⊎ ((exponent a ≡ exponent b) × (significand a ≤ significand b))
parts_order a b h = elim (cases_lt b 4503599627370496) [
  | inl small ↦
      let less : a < 4503599627370496 = omega arith in
      inr (omega (arith, exponent_small a less, exponent_small b small), omega (arith, significand_small a less, significand_small b small))
  | inr large ↦
      let mb = significand_large b large in
      let eb = exponent_large b large in
      elim (cases_lt a 4503599627370496) [
        | inl less ↦
            let ma = significand_small a less in
            let ea = exponent_small a less in
            elim (cases_lt 1 (exponent b)) [
              | inl above ↦ inl (omega arith)
              | inr one ↦ inr (omega arith, omega arith)
            ]
        | inr more ↦
            let ma = significand_large a more in
            let ea = exponent_large a more in
            elim (cases_lt (exponent a) (exponent b)) [
              | inl above ↦ inl above
              | inr same ↦ inr (omega arith, omega arith)
            ]
      ]
]

pub units_le : (a b : ℕ) → a ≤ b → units a ≤ units b
units_le a b h =
    let p = are_parts a in
    let q = are_parts b in
    elim (parts_order a b h) [
      | inl less ↦
          let step : 2 ^ exponent a ≤ 2 ^ (exponent b - 1) = pow_le (exponent a) (exponent b - 1) (omega arith) in
          let again : exponent a ≡ (exponent a - 1) + 1 = omega (arith, p.some) in
          let twice : 2 ^ exponent a ≡ 2 ^ (exponent a - 1) * 2 ^ 1 = ap (λ (x : ℕ). 2 ^ x) again ∙ pow-add 2 (exponent a - 1) 1 in
          let low : significand a * 2 ^ (exponent a - 1) ≤ 9007199254740992 * 2 ^ (exponent a - 1) = mul-le-mul_right (2 ^ (exponent a - 1)) (omega (arith, p.short)) in
          let high : 4503599627370496 * 2 ^ (exponent b - 1) ≤ significand b * 2 ^ (exponent b - 1) = mul-le-mul_right (2 ^ (exponent b - 1)) (q.full (omega (arith, p.some))) in
          omega (arith, p.is, q.is, step, twice, low, high)
      | inr same ↦
          let e : 2 ^ (exponent a - 1) ≡ 2 ^ (exponent b - 1) = ap (λ (x : ℕ). 2 ^ (x - 1)) same.0 in
          let m : significand a * 2 ^ (exponent b - 1) ≤ significand b * 2 ^ (exponent b - 1) = mul-le-mul_right (2 ^ (exponent b - 1)) same.1 in
          let f : significand a * 2 ^ (exponent a - 1) ≡ significand a * 2 ^ (exponent b - 1) = ap (λ (x : ℕ). significand a * x) e in
          omega (arith, p.is, q.is, f, m)
    ]

pub units_some : (c : ℕ) → 0 < c → 0 < units c
units_some c h =
    let p = are_parts c in
    let m : 1 * 2 ^ (exponent c - 1) ≤ significand c * 2 ^ (exponent c - 1) = mul-le-mul_right (2 ^ (exponent c - 1)) (significand_some c h) in
    omega (arith, p.is, m, pow_pos (exponent c - 1))

-- ---- lengths
-- the exponent of a power between two others
pub less_by_power : (i j : ℕ) → 2 ^ i < 2 ^ j → i < j
less_by_power i j h = elim (cases_lt i j) [ inl less ↦ less | inr from ↦ absurd (omega (arith, pow_le j i from)) ]

-- the greatest float's length, from the space above its significand
pub record HasLength (g space len : ℕ) : Type 0 where
  pub few : space ≤ 63
  pub many : 11 ≤ space
  pub is : len ≡ 64 - space + (exponent g - 1)
  pub below : significand g < 2 ^ (64 - space)
  pub from : 2 ^ (63 - space) ≤ significand g
  pub within : units g < 2 ^ len
  pub least : 2 ^ (len - 1) ≤ units g

pub has_length : (g space : ℕ) → 0 < g → g < 9218868437227405312 → space ≡ count_leading_zeros 64 (significand g) → HasLength g space (binary_length 2098 (units g))
unfolding binary_length
has_length g space some finite is =
    let p = are_parts g in
    let limit : exponent g ≤ 2046 = exponent_few g finite in
    let top = leading_top 64 (significand g) (significand_some g some) (omega (arith, p.short)) in
    let i : ℕ = top.0 in
    let few : i < 53 = less_by_power i 53 (omega (arith, top.2, p.short)) in
    let d : ℕ = exponent g - 1 in
    let m : ℕ = significand g in
    let low : 2 ^ i * 2 ^ d ≤ m * 2 ^ d = mul-le-mul_right (2 ^ d) top.2 in
    let high : suc m * 2 ^ d ≤ 2 ^ suc i * 2 ^ d = mul-le-mul_right (2 ^ d) top.3 in
    let low_is = pow-add 2 i d in
    let high_is = pow-add 2 (suc i) d in
    let place = pow_pos d in
    let from : 2 ^ (i + d) ≤ units g = omega (arith, p.is, low, low_is) in
    let below : units g < 2 ^ (suc i + d) = omega (arith, p.is, high, high_is, place) in
    let fits : units g < 2 ^ 2098 = omega (arith, below, pow_le (suc i + d) 2098 (omega (arith, limit, few))) in
    let all = leading_top 2098 (units g) (units_some g some) fits in
    let j : ℕ = all.0 in
    let down : i + d < suc j = less_by_power (i + d) (suc j) (omega (arith, from, all.3)) in
    let up : j < suc i + d = less_by_power j (suc i + d) (omega (arith, below, all.2)) in
    let len_is : 2098 - count_leading_zeros 2098 (units g) ≡ suc i + d = omega (arith, all.1, down, up) in
    let bits : 64 - space ≡ suc i = omega (arith, is, top.1) in
    let less : 63 - space ≡ i = omega (arith, is, top.1) in
    record {
      few = omega (arith, is, top.1);
      many = omega (arith, is, top.1, few);
      is = omega (arith, len_is, bits);
      below = rw bits top.3;
      from = rw less top.2;
      within = rw len_is below;
      least = let place_is : 2098 - count_leading_zeros 2098 (units g) - 1 ≡ i + d = omega (arith, len_is) in rw place_is from;
    }

-- no float of the row has a longer significand
pub significand_below : (g c space len : ℕ) → HasLength g space len → c ≤ g → significand c < 2 ^ (64 - space)
significand_below g c space len h within =
    let p = are_parts c in
    let q = are_parts g in
    elim (parts_order c g within) [
      | inl less ↦
          let full = q.full (omega (arith, less, p.some)) in
          let some : 52 < 64 - space = less_by_power 52 (64 - space) (omega (arith, full, h.below)) in
          omega (arith, p.short, pow_le 53 (64 - space) (omega arith))
      | inr same ↦ omega (arith, same.1, h.below)
    ]

pub exponent_within : (g c : ℕ) → c ≤ g → exponent c ≤ exponent g
exponent_within g c within = elim (parts_order c g within) [ inl less ↦ omega (arith, less) | inr same ↦ omega (arith, same.0) ]

-- ---- a count
pub lifted_below : (g c space lift len : ℕ) → HasLength g space len → lift + 2 ≡ space → c ≤ g → significand c * 2 ^ lift < 4611686018427387904
lifted_below g c space lift len h lifts within =
    let below : suc (significand c) * 2 ^ lift ≤ 2 ^ (64 - space) * 2 ^ lift = mul-le-mul_right (2 ^ lift) (significand_below g c space len h within) in
    let all : (64 - space) + lift ≡ 62 = omega (arith, lifts, h.few) in
    let is : 2 ^ (64 - space) * 2 ^ lift ≡ 2 ^ 62 = sym (pow-add 2 (64 - space) lift) ∙ ap (λ (x : ℕ). 2 ^ x) all in
    omega (arith, below, is, pow_pos lift)

at_most_63 : (n t : ℕ) → n < 4611686018427387904 → nearest n (2 ^ min t 63) ≡ nearest n (2 ^ t)
at_most_63 n t small = elim (cases_lt t 63) [
  | inl less ↦ ap (λ (x : ℕ). nearest n (2 ^ x)) (min-eq_left (omega (arith, less)))
  | inr from ↦
      let top : min t 63 ≡ 63 = min-eq_right from in
      let none : nearest n (2 ^ 63) ≡ 0 = nearest_none n (2 ^ 63) (omega arith) in
      let nothing : nearest n (2 ^ t) ≡ 0 = nearest_none n (2 ^ t) (omega (arith, pow_le 63 t from)) in
      ap (λ (x : ℕ). nearest n (2 ^ x)) top ∙ none ∙ sym nothing
]

pub count_is : (g c bits space lift rise len : ℕ) → HasLength g space len → lift + 2 ≡ space → bits ≤ 62 → rise ≡ exponent g + 62 - bits → c ≤ g
    → nearest (significand c * 2 ^ lift) (2 ^ min (rise - exponent c) 63) ≡ nearest (units c * 2 ^ bits) (2 ^ len)
count_is g c bits space lift rise len h lifts few rises within =
    let p = are_parts c in
    let e = exponent_within g c within in
    let m : ℕ = significand c in
    let t : ℕ = rise - exponent c in
    let d : ℕ = exponent c - 1 in
    let small = lifted_below g c space lift len h lifts within in
    let power = pow-add 2 d bits in
    let left = nearest_scaled (m * 2 ^ lift) (2 ^ t) (2 ^ (d + bits)) (pow_pos (d + bits)) (pow_pos t) in
    let right = nearest_scaled (units c * 2 ^ bits) (2 ^ len) (2 ^ lift) (pow_pos lift) (pow_pos len) in
    let sum : t + (d + bits) ≡ len + lift = omega (arith, h.is, lifts, rises, e, p.some, few, h.few) in
    let under : 2 ^ t * 2 ^ (d + bits) ≡ 2 ^ len * 2 ^ lift = sym (pow-add 2 t (d + bits)) ∙ ap (λ (x : ℕ). 2 ^ x) sum ∙ pow-add 2 len lift in
    let first : m * 2 ^ lift * 2 ^ (d + bits) ≡ m * 2 ^ lift * (2 ^ d * 2 ^ bits) = ap (λ (x : ℕ). m * 2 ^ lift * x) power in
    let second : units c * 2 ^ bits * 2 ^ lift ≡ m * 2 ^ d * 2 ^ bits * 2 ^ lift = ap (λ (x : ℕ). x * 2 ^ bits * 2 ^ lift) p.is in
    let over : m * 2 ^ lift * 2 ^ (d + bits) ≡ units c * 2 ^ bits * 2 ^ lift = omega (arith, first, second) in
    at_most_63 (m * 2 ^ lift) t small ∙ sym left ∙ ap (λ (x : ℕ). nearest x (2 ^ t * 2 ^ (d + bits))) over ∙ ap (λ (x : ℕ). nearest (units c * 2 ^ bits * 2 ^ lift) x) under ∙ right

pub count_most : (g c bits space len : ℕ) → HasLength g space len → c ≤ g → nearest (units c * 2 ^ bits) (2 ^ len) ≤ 2 ^ bits
count_most g c bits space len h within =
    let less : units c * 2 ^ bits ≤ 2 ^ len * 2 ^ bits = mul-le-mul_right (2 ^ bits) (omega (arith, units_le c g within, h.within)) in
    nearest_most (units c * 2 ^ bits) (2 ^ len) (2 ^ bits) (pow_pos len) (omega (arith, less))

-- ---- a row
probable_yes : (b : ℕ) → float_bits b < 9218868437227405312 → is_probability b ≡ true
unfolding is_probability
probable_yes b h = grind (arith, nat_tests)

probable_no : (b : ℕ) → 9218868437227405312 ≤ float_bits b → is_probability b ≡ false
unfolding is_probability
probable_no b h = grind (arith, nat_tests)

pub most_from : (a : ℕ) (xs : List ℕ) → a ≤ fold (λ (m b : ℕ). max m (float_bits b)) a xs
most_from a [] = omega arith
most_from a (x ∷ xs) = omega (arith, most_from (max a (float_bits x)) xs, le-max_left a (float_bits x))

most_reaches : (a : ℕ) (xs : List ℕ) (k : ℕ) → k < length xs → float_bits (get_or xs k 0) ≤ fold (λ (m b : ℕ). max m (float_bits b)) a xs
most_reaches a [] k h = absurd (omega (arith, h))
most_reaches a (x ∷ xs) zero h = omega (arith, most_from (max a (float_bits x)) xs, le-max_right a (float_bits x))
most_reaches a (x ∷ xs) (suc k) h = most_reaches (max a (float_bits x)) xs k (omega (arith, h))

pub greatest_reaches : (xs : List ℕ) (k : ℕ) → k < length xs → float_bits (get_or xs k 0) ≤ greatest_bits xs
unfolding greatest_bits
greatest_reaches xs k h = most_reaches 0 xs k h

max_below : (a b n : ℕ) → a < n → b < n → max a b < n
max_below a b n h k = elim (cases_lt a b) [
  | inl less ↦ omega (arith, k, max-eq_right {n = a} {m = b} (omega (arith, less)))
  | inr from ↦ omega (arith, h, max-eq_left {n = a} {m = b} from)
]

-- all floats are probabilities if the greatest bits are below those of infinity
pub data Checked (xs : List ℕ) (most : ℕ) : Type 0 where
  sound : list_all is_probability xs ≡ true → most < 9218868437227405312 → Checked xs most
  broken : list_all is_probability xs ≡ false → 9218868437227405312 ≤ most → Checked xs most

checked_from : (a : ℕ) (xs : List ℕ) → a < 9218868437227405312 → Checked xs (fold (λ (m b : ℕ). max m (float_bits b)) a xs)
checked_from a [] h = sound refl h
checked_from a (x ∷ xs) h = elim (cases_lt (float_bits x) 9218868437227405312) [
  | inl less ↦ elim (checked_from (max a (float_bits x)) xs (max_below a (float_bits x) 9218868437227405312 h less)) [
    | sound all below ↦ sound (rw (probable_yes x less) all) below
    | broken some from ↦ broken (rw (probable_yes x less) some) from
  ]
  | inr from ↦ broken (rw (probable_no x from) refl) (omega (arith, from, most_from (max a (float_bits x)) xs, le-max_right a (float_bits x)))
]

pub checked : (xs : List ℕ) → Checked xs (greatest_bits xs)
unfolding greatest_bits
checked xs = checked_from 0 xs (lit< tt)

-- the greatest units are those of the greatest bits
units_max : (a b : ℕ) → max (units a) (units b) ≡ units (max a b)
units_max a b = elim (cases_lt a b) [
  | inl less ↦ max-eq_right (units_le a b (omega (arith, less))) ∙ sym (ap units (max-eq_right (omega (arith, less))))
  | inr from ↦ max-eq_left (units_le b a from) ∙ sym (ap units (max-eq_left from))
]

units_from : (a : ℕ) (xs : List ℕ) → fold (λ (m b : ℕ). max m (float_units b)) (units a) xs ≡ units (fold (λ (m b : ℕ). max m (float_bits b)) a xs)
unfolding float_units
units_from a [] = refl
units_from a (x ∷ xs) = ap (λ (y : ℕ). fold (λ (m b : ℕ). max m (float_units b)) y xs) (units_max a (float_bits x)) ∙ units_from (max a (float_bits x)) xs

units_none : units 0 ≡ 0
unfolding units significand exponent
units_none = refl

pub greatest_is : (xs : List ℕ) → greatest_units xs ≡ units (greatest_bits xs)
unfolding greatest_units greatest_bits
greatest_is xs = ap (λ (y : ℕ). fold (λ (m b : ℕ). max m (float_units b)) y xs) (sym units_none) ∙ units_from 0 xs

pub no_units : (xs : List ℕ) → greatest_bits xs ≡ 0 → greatest_units xs ≡ 0
no_units xs e = greatest_is xs ∙ ap units e ∙ units_none

pub some_units : (xs : List ℕ) → 0 < greatest_bits xs → 0 < greatest_units xs
some_units xs h = omega (arith, greatest_is xs, units_some (greatest_bits xs) h)

pub row_length_is : (xs : List ℕ) → row_length xs ≡ binary_length 2098 (units (greatest_bits xs))
unfolding row_length
row_length_is xs = ap (λ (x : ℕ). binary_length 2098 x) (greatest_is xs)

-- ---- the scale of a row: its greatest float, and how far to shift
scale_length : (most bits lift rise : ℕ) → IsScale most bits lift rise → HasLength most (lift + 2) (binary_length 2098 (units most))
scale_length most bits lift rise s = has_length most (lift + 2) s.some s.finite s.lifted

pub scaled_small : (most bits lift rise c : ℕ) → IsScale most bits lift rise → c ≤ most → significand c * 2 ^ lift < 4611686018427387904
scaled_small most bits lift rise c s h = lifted_below most c (lift + 2) lift (binary_length 2098 (units most)) (scale_length most bits lift rise s) refl h

pub scaled_count : (most bits lift rise b : ℕ) → IsScale most bits lift rise → float_bits b ≤ most
    → nearest (significand (float_bits b) * 2 ^ lift) (2 ^ min (rise - exponent (float_bits b)) 63) ≡ float_count (binary_length 2098 (units most)) bits b
unfolding float_count float_units
scaled_count most bits lift rise b s h = count_is most (float_bits b) bits (lift + 2) lift rise (binary_length 2098 (units most)) (scale_length most bits lift rise s) refl s.few s.risen h

pub scaled_most : (most bits lift rise b : ℕ) → IsScale most bits lift rise → float_bits b ≤ most → float_count (binary_length 2098 (units most)) bits b ≤ 2 ^ bits
unfolding float_count float_units
scaled_most most bits lift rise b s h = count_most most (float_bits b) bits (lift + 2) (binary_length 2098 (units most)) (scale_length most bits lift rise s) h

pub scale_lifts : (most : ℕ) → 0 < most → most < 9218868437227405312 → 2 ≤ count_leading_zeros 64 (significand most)
scale_lifts most some finite =
    let h = has_length most (count_leading_zeros 64 (significand most)) some finite refl in
    omega (arith, h.many)

pub scale_rises : (most bits lift rise c : ℕ) → IsScale most bits lift rise → c ≤ most → exponent c ≤ rise
scale_rises most bits lift rise c s h = omega (arith, s.risen, s.few, exponent_within most c h)

-- what the code computes, from the results of its calls
pub scaled_fits : (most bits lift rise b f m : ℕ) → IsScale most bits lift rise → float_bits b ≤ most → f ≡ float_bits b → m ≡ significand f
    → m * 2 ^ lift % 18446744073709551616 < 4611686018427387904
scaled_fits most bits lift rise b f m s h f_is m_is =
    let small : significand f * 2 ^ lift < 4611686018427387904 = scaled_small most bits lift rise f s (omega (arith, f_is, h)) in
    let same : m * 2 ^ lift ≡ significand f * 2 ^ lift = ap (λ (x : ℕ). x * 2 ^ lift) m_is in
    omega (arith, small, same, mod-le (m * 2 ^ lift) 18446744073709551616)

pub scaled_result : (most bits lift rise b f m e t r : ℕ) → IsScale most bits lift rise → float_bits b ≤ most → f ≡ float_bits b → m ≡ significand f
    → e ≡ exponent f → t ≡ min (rise - e) 63 → r ≡ nearest (m * 2 ^ lift % 18446744073709551616) (2 ^ t) → r ≡ float_count (binary_length 2098 (units most)) bits b
scaled_result most bits lift rise b f m e t r s h f_is m_is e_is t_is r_is =
    let small : significand f * 2 ^ lift < 4611686018427387904 = scaled_small most bits lift rise f s (omega (arith, f_is, h)) in
    let same : m * 2 ^ lift ≡ significand f * 2 ^ lift = ap (λ (x : ℕ). x * 2 ^ lift) m_is in
    let whole : m * 2 ^ lift % 18446744073709551616 ≡ m * 2 ^ lift = mod-eq_of_lt (omega (arith, small, same)) in
    let number : m * 2 ^ lift % 18446744073709551616 ≡ significand (float_bits b) * 2 ^ lift = whole ∙ same ∙ ap (λ (x : ℕ). significand x * 2 ^ lift) f_is in
    let places : t ≡ min (rise - exponent (float_bits b)) 63 = t_is ∙ ap (λ (x : ℕ). min (rise - x) 63) (e_is ∙ ap exponent f_is) in
    r_is ∙ ap (λ (x : ℕ). nearest x (2 ^ t)) number ∙ ap (λ (x : ℕ). nearest (significand (float_bits b) * 2 ^ lift) (2 ^ x)) places ∙ scaled_count most bits lift rise b s h

pub scaled_limit : (most bits lift rise b r : ℕ) → IsScale most bits lift rise → float_bits b ≤ most → r ≡ float_count (binary_length 2098 (units most)) bits b → r ≤ 2 ^ bits
scaled_limit most bits lift rise b r s h is = omega (arith, is, scaled_most most bits lift rise b s h)

-- ---- loops over a row
pub put_more : (f : ℕ → ℕ) (xs ys : List ℕ) (i y : ℕ) → i < length xs → i < length ys → y ≡ f (get_or xs i 0) → take i ys ≡ map f (take i xs)
    → take (i + 1) (set ys i y) ≡ map f (take (i + 1) xs)
put_more f xs ys i y within within' is before =
    take_more_set ys i y within' ∙ ap (λ (zs : List ℕ). zs ++ y ∷ []) before ∙ ap (λ (n : ℕ). map f (take i xs) ++ n ∷ []) is
    ∙ sym (ap (map f) (take_more xs i 0 within) ∙ map_push f (take i xs) (get_or xs i 0))

pub put_all : (f : ℕ → ℕ) (xs ys : List ℕ) (i : ℕ) → length xs ≤ i → length ys ≡ length xs → take i ys ≡ map f (take i xs) → ys ≡ map f xs
put_all f xs ys i past same done = sym (take_all i ys (omega (arith, past, same))) ∙ done ∙ ap (map f) (take_all i xs past)

length_at : (xs : List ℕ) (most : ℕ) → most ≡ greatest_bits xs → row_length xs ≡ binary_length 2098 (units most)
length_at xs most is = row_length_is xs ∙ ap (λ (x : ℕ). binary_length 2098 (units x)) (sym is)

pub counts_are : (xs : List ℕ) (most bits : ℕ) → most ≡ greatest_bits xs → map (float_count (binary_length 2098 (units most)) bits) xs ≡ counts_at bits xs
unfolding counts_at
counts_are xs most bits is = ap (λ (x : ℕ). map (float_count x bits) xs) (sym (length_at xs most is))

pub weight_counts_are : (xs : List ℕ) (most : ℕ) → most ≡ greatest_bits xs → map (weight_count (binary_length 2098 (units most))) xs ≡ weight_counts xs
unfolding weight_counts
weight_counts_are xs most is = ap (λ (x : ℕ). map (weight_count x) xs) (sym (length_at xs most is))

pub weight_count_is : (len b r y : ℕ) → r ≡ float_count len 62 b → y ≡ max r 1 → y ≡ weight_count len b
unfolding weight_count
weight_count_is len b r y r_is y_is = y_is ∙ ap (λ (x : ℕ). max x 1) r_is

pub reaches_most : (xs : List ℕ) (most k : ℕ) → most ≡ greatest_bits xs → k < length xs → float_bits (get_or xs k 0) ≤ most
reaches_most xs most k is h = omega (arith, is, greatest_reaches xs k h)

-- ---- the bits of a second try
pub quick_bits_few : (total : ℕ) → total < 1099511627776 → 31 ≡ quick_bits total
unfolding quick_bits
quick_bits_few total h = grind (arith, nat_tests)

pub quick_bits_fewer : (total r : ℕ) → 1099511627776 ≤ total → r ≡ 31 - (128 - count_leading_zeros 128 total - 39) → r ≡ quick_bits total
unfolding quick_bits binary_length
quick_bits_fewer total r h is = grind (arith, nat_tests)

pub quick_length : (total : ℕ) → 1099511627776 ≤ total → total < 340282366920938463463374607431768211456 → 39 ≤ 128 - count_leading_zeros 128 total
quick_length total h fits =
    let top = leading_top 128 total (omega (arith, h)) fits in
    let j : ℕ = top.0 in
    let some : 40 < suc j = less_by_power 40 (suc j) (omega (arith, h, top.3)) in
    omega (arith, top.1, some)

pub quick_counts_are : (xs first last : List ℕ) (start total bits again : ℕ) → start ≡ 31 → first ≡ counts_at start xs → total ≡ sum first → bits ≡ quick_bits total
    → again ≡ bits → last ≡ counts_at again xs → last ≡ quick_counts xs
unfolding quick_counts
quick_counts_are xs first last start total bits again start_is first_is total_is bits_is again_is last_is =
    let row : first ≡ counts_at 31 xs = first_is ∙ ap (λ (b : ℕ). counts_at b xs) start_is in
    let sum_is : total ≡ sum (counts_at 31 xs) = total_is ∙ ap (λ (ys : List ℕ). sum ys) row in
    last_is ∙ ap (λ (b : ℕ). counts_at b xs) (again_is ∙ bits_is ∙ ap quick_bits sum_is)

-- ---- the check of a row
pub is_broken : (xs : List ℕ) (most : ℕ) → most ≡ greatest_bits xs → 9218868437227405312 ≤ most → list_all is_probability xs ≡ false
is_broken xs most is h = elim (checked xs) [
  | sound all below ↦ absurd (omega (arith, is, below, h))
  | broken some from ↦ some
]

pub is_sound : (xs : List ℕ) (most : ℕ) → most ≡ greatest_bits xs → most < 9218868437227405312 → list_all is_probability xs ≡ true
is_sound xs most is h = elim (checked xs) [
  | sound all below ↦ all
  | broken some from ↦ absurd (omega (arith, is, from, h))
]

pub is_none : (xs : List ℕ) (most : ℕ) → most ≡ greatest_bits xs → most ≡ 0 → greatest_units xs ≡ 0
is_none xs most is h = no_units xs (sym is ∙ h)

pub is_some : (xs : List ℕ) (most : ℕ) → most ≡ greatest_bits xs → 0 < most → 0 < greatest_units xs
is_some xs most is h = some_units xs (omega (arith, is, h))

-- ---- a table of powers of two
unfoldable pub falling : ℕ → ℕ → List ℕ
falling zero m = []
falling (suc n) m = 2 ^ m ∷ falling n (m - 1)

pub falling_at : (n m k : ℕ) → k < n → get_or (falling n m) k 0 ≡ 2 ^ (m - k)
unfolding falling
falling_at zero m k h = absurd (omega arith)
falling_at (suc n) m zero h = ap (λ (e : ℕ). 2 ^ e) (omega arith)
falling_at (suc n) m (suc k) h = falling_at n (m - 1) k (omega arith) ∙ ap (λ (e : ℕ). 2 ^ e) (omega arith)

-- a product in place of a shift
pub nearest_product : (n t h product : ℕ) → t ≤ 63 → h ≡ 2 ^ (63 - t) → product ≡ 2 * n * h → (product + 9223372036854775807 + product / 18446744073709551616 % 2) / 18446744073709551616 ≡ nearest n (2 ^ t)
nearest_product n t h product few is product_is =
    let d : ℕ = 2 ^ t in
    let some : 0 < h = rw is (pow_pos (63 - t)) in
    let top : t + (63 - t) ≡ 63 = omega arith in
    let all : d * h ≡ 9223372036854775808 = ap (λ (x : ℕ). d * x) is ∙ (sym (pow-add 2 t (63 - t)) ∙ ap (λ (e : ℕ). 2 ^ e) top) in
    let scaled : nearest (n * h) 9223372036854775808 ≡ nearest n d = ap (nearest (n * h)) (sym all) ∙ nearest_scaled n d h some (pow_pos t) in
    let twice : product ≡ 2 * (n * h) = product_is ∙ omega arith in
    rw (← scaled) (rw (← nearest_sum (n * h) 9223372036854775808 (omega arith)) (omega (arith, twice)))

-- the sign of a float that is at most a finite one is that of negative zero, if any
pub sign_cleared : (most bits lift rise float : ℕ) → IsScale most bits lift rise → float_bits float ≤ most → float % 9223372036854775808 ≡ float_bits float
unfolding float_bits
sign_cleared most bits lift rise float s within = cleared s.finite within
  where
    cleared : most < 2047 * 2 ^ 52 → float_bits float ≤ most → float % 9223372036854775808 ≡ float_bits float
    cleared finite low = grind (arith, nat_tests)
