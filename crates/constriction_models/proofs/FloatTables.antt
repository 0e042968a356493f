-- The counts of a row of floats for a table: their sum is above 0 and below 2 ^ 40.
use Rattle.std.proofs.Common.{◌≡◌, ℕ, suc, ◌+◌, ◌-◌, ◌*◌, ◌/◌, ◌%◌, ◌^◌, ◌<◌, ◌≤◌, List, [], ◌∷◌, length, get_or, map, max, refl, ap, ◌∙◌, inl, inr, arith, lit<}
use Rattle.std.specs.List.{fold, sum}
use lib.Count.{count_leading_zeros}
use Rattle.std.proofs.Math.Nat.{max-eq_left, max-eq_right, mul-le-mul_left, mul-le-mul_right, le_of_mul-le-mul_right, lt_of_mul-lt-mul_right}
use Rattle.std.proofs.lemmas.Bool.{cases_lt, cases_order}
use Rattle.std.proofs.lemmas.Nat.{pow_pos, pow-add, mod_below, div-add-mod', leading_top}
use Rattle.std.proofs.lemmas.List.Sums.{sum_by-cons, get_or-le-sum_by}
use Rattle.std.proofs.lemmas.List.{length-map, get_or-map}
use Rattle.constriction_base.proofs.Sizes.{pow_le}
use Rattle.constriction_models.specs.Categorical.{MakeCategorical}
use Rattle.constriction_models.specs.Floats.{counts_at, float_bits, float_count, float_units, greatest_bits, nearest, quick_bits, quick_counts, row_length, significand, units}
use Rattle.constriction_models.proofs.Floating.{HasLength, count_most, greatest_reaches, has_length, less_by_power, most_from, nearest_down, nearest_even, nearest_up, quick_bits_few, quick_bits_fewer, row_length_is}

-- ---- a rounded quotient lies within a half
pub record IsNearest (n d q : ℕ) : Type 0 where
  pub low : 2 * (q * d) ≤ 2 * n + d
  pub high : 2 * n ≤ 2 * (q * d) + d

nearest_is : (n d : ℕ) → 0 < d → IsNearest n d (nearest n d)
nearest_is n d some =
    let whole : n / d * d + n % d ≡ n = div-add-mod' n d in
    let low : n % d < d = mod_below n d some in
    let more : (n / d + 1) * d ≡ n / d * d + d = omega arith in
    elim (cases_order (2 * (n % d)) d) [
      | inl half ↦ elim (cases_lt (n / d % 2) 1) [
        | inl even ↦
            let e : nearest n d ≡ n / d = omega (arith, nearest_even n d half, even) in
            record { low = rw e (omega (arith, whole)); high = rw e (omega (arith, whole, half)) }
        | inr odd ↦
            let e : nearest n d ≡ n / d + 1 = omega (arith, nearest_even n d half, odd, mod_below (n / d) 2 (lit< tt)) in
            record { low = rw e (omega (arith, whole, half, more)); high = rw e (omega (arith, whole, half, more)) }
      ]
      | inr (inl down) ↦
          let e = nearest_down n d down in
          record { low = rw e (omega (arith, whole)); high = rw e (omega (arith, whole, down)) }
      | inr (inr up) ↦
          let e = nearest_up n d up in
          record { low = rw e (omega (arith, whole, up, more)); high = rw e (omega (arith, whole, low, more)) }
    ]

-- a count of a second try, by one of the first
second_low : (u d k least c e : ℕ) → 0 < d → 31 ≡ least + k → c ≡ nearest (u * 2 ^ 31) d → e ≡ nearest (u * 2 ^ least) d → 2 * (e * 2 ^ k) ≤ 2 * c + 1 + 2 ^ k
second_low u d k least c e some all c_is e_is =
    let first = nearest_is (u * 2 ^ 31) d some in
    let second = nearest_is (u * 2 ^ least) d some in
    let power : 2 ^ 31 ≡ 2 ^ least * 2 ^ k = ap (λ (x : ℕ). 2 ^ x) all ∙ pow-add 2 least k in
    let number : u * 2 ^ 31 ≡ u * 2 ^ least * 2 ^ k = ap (λ (x : ℕ). u * x) power ∙ omega arith in
    let high : 2 * (u * 2 ^ 31) ≤ 2 * (c * d) + d = rw c_is first.high in
    let low : 2 * (e * d) ≤ 2 * (u * 2 ^ least) + d = rw e_is second.low in
    let times : 2 * (e * d) * 2 ^ k ≤ (2 * (u * 2 ^ least) + d) * 2 ^ k = mul-le-mul_right (2 ^ k) low in
    let both : 2 * (e * 2 ^ k) * d ≤ (2 * c + 1 + 2 ^ k) * d = omega (arith, times, high, number) in
    le_of_mul-le-mul_right {k = d} both some

-- ---- the sums of both tries
count_is_nearest : (len bits b : ℕ) → float_count len bits b ≡ nearest (float_units b * 2 ^ bits) (2 ^ len)
unfolding float_count
count_is_nearest len bits b = refl

seconds_low : (len k least : ℕ) (xs : List ℕ) → 31 ≡ least + k
    → 2 * (sum (map (float_count len least) xs) * 2 ^ k) ≤ 2 * sum (map (float_count len 31) xs) + length xs * (1 + 2 ^ k)
seconds_low len k least [] all = omega arith
seconds_low len k least (x ∷ xs) all =
    let rest = seconds_low len k least xs all in
    let one = second_low (float_units x) (2 ^ len) k least (float_count len 31 x) (float_count len least x) (pow_pos len) all (count_is_nearest len 31 x) (count_is_nearest len least x) in
    let left = sum_by-cons (λ (y : ℕ). y) (float_count len least x) (map (float_count len least) xs) in
    let right = sum_by-cons (λ (y : ℕ). y) (float_count len 31 x) (map (float_count len 31) xs) in
    let parts : sum (map (float_count len least) (x ∷ xs)) * 2 ^ k ≡ float_count len least x * 2 ^ k + sum (map (float_count len least) xs) * 2 ^ k = ap (λ (y : ℕ). y * 2 ^ k) left ∙ omega arith in
    omega (arith, rest, one, parts, right)

sum_few : (f : ℕ → ℕ) (m : ℕ) (xs : List ℕ) → ((k : ℕ) → k < length xs → f (get_or xs k 0) ≤ m) → sum (map f xs) ≤ length xs * m
sum_few f m [] h = omega arith
sum_few f m (x ∷ xs) h =
    let rest = sum_few f m xs (λ k inside. h (suc k) (omega (arith, inside))) in
    omega (arith, rest, h 0 (omega arith), sum_by-cons (λ (y : ℕ). y) (f x) (map f xs))

-- ---- the greatest float's count
max_at : (a : ℕ) (xs : List ℕ) → a < fold (λ (m b : ℕ). max m (float_bits b)) a xs
    → (k : ℕ) × (k < length xs) × (float_bits (get_or xs k 0) ≡ fold (λ (m b : ℕ). max m (float_bits b)) a xs)
max_at a [] h = absurd (omega (arith, h))
max_at a (x ∷ xs) h = elim (cases_lt (max a (float_bits x)) (fold (λ (m b : ℕ). max m (float_bits b)) (max a (float_bits x)) xs)) [
  | inl later ↦ (let found = max_at (max a (float_bits x)) xs later in (suc found.0, omega (arith, found.1), found.2))
  | inr here ↦ elim (cases_lt a (float_bits x)) [
    | inl less ↦ (0, omega arith, omega (arith, most_from (max a (float_bits x)) xs, here, max-eq_right {n = a} {m = float_bits x} (omega (arith, less))))
    | inr from ↦ absurd (omega (arith, h, here, max-eq_left {n = a} {m = float_bits x} from))
  ]
]

greatest_at : (xs : List ℕ) → 0 < greatest_bits xs → (k : ℕ) × (k < length xs) × (float_bits (get_or xs k 0) ≡ greatest_bits xs)
unfolding greatest_bits
greatest_at xs h = max_at 0 xs h

units_of_bits : (b g : ℕ) → float_bits b ≡ g → float_units b ≡ units g
unfolding float_units
units_of_bits b g e = ap units e

count_some : (g len bits b space : ℕ) → HasLength g space len → 1 ≤ bits → float_bits b ≡ g → 0 < float_count len bits b
count_some g len bits b space h some is =
    let near = nearest_is (float_units b * 2 ^ bits) (2 ^ len) (pow_pos len) in
    let one : bits ≡ 1 + (bits - 1) = omega (arith, some) in
    let split : 2 ^ bits ≡ 2 * 2 ^ (bits - 1) = ap (λ (x : ℕ). 2 ^ x) one ∙ pow-add 2 1 (bits - 1) in
    let before : len ≡ (len - 1) + 1 = omega (arith, h.is, h.few) in
    let twice : 2 ^ len ≡ 2 ^ (len - 1) * 2 = ap (λ (x : ℕ). 2 ^ x) before ∙ pow-add 2 (len - 1) 1 in
    let first : 2 ^ (len - 1) * 2 ^ bits ≤ units g * 2 ^ bits = mul-le-mul_right (2 ^ bits) h.least in
    let parts : 2 ^ (len - 1) * 2 ^ bits ≡ 2 ^ (len - 1) * 2 * 2 ^ (bits - 1) = ap (λ (x : ℕ). 2 ^ (len - 1) * x) split ∙ omega arith in
    let least : 2 ^ (len - 1) * 2 * 1 ≤ 2 ^ (len - 1) * 2 * 2 ^ (bits - 1) = mul-le-mul_left (2 ^ (len - 1) * 2) (pow_pos (bits - 1)) in
    let same : float_units b * 2 ^ bits ≡ units g * 2 ^ bits = ap (λ (x : ℕ). x * 2 ^ bits) (units_of_bits b g is) in
    elim (cases_lt 0 (float_count len bits b)) [
      | inl above ↦ above
      | inr none ↦
          let zero_is : nearest (float_units b * 2 ^ bits) (2 ^ len) ≡ 0 = omega (arith, count_is_nearest len bits b, none) in
          let high : 2 * (float_units b * 2 ^ bits) ≤ 2 * (0 * 2 ^ len) + 2 ^ len = rw zero_is at near.high in
          absurd (omega (arith, high, same, first, parts, least, twice, pow_pos len))
    ]

sum_some : (f : ℕ → ℕ) (xs : List ℕ) (k : ℕ) → k < length xs → 0 < f (get_or xs k 0) → 0 < sum (map f xs)
sum_some f xs k inside some =
    let long = length-map xs f in
    let item = get_or-map f xs k 0 0 inside in
    omega (arith, some, item, get_or-le-sum_by (λ (y : ℕ). y) (map f xs) k 0 (omega (arith, inside, long)))

-- ---- a row
module _ (xs : List ℕ) (some : 0 < greatest_bits xs) (finite : greatest_bits xs < 9218868437227405312) where
  g : ℕ
  g = greatest_bits xs

  long : HasLength (greatest_bits xs) (count_leading_zeros 64 (significand (greatest_bits xs))) (row_length xs)
  long = rw (row_length_is xs) (has_length (greatest_bits xs) (count_leading_zeros 64 (significand (greatest_bits xs))) some finite refl)

  row_some : (bits : ℕ) → 1 ≤ bits → 0 < sum (counts_at bits xs)
  unfolding counts_at
  row_some bits h =
      let found = greatest_at xs some in
      sum_some (float_count (row_length xs) bits) xs found.0 found.1 (count_some (greatest_bits xs) (row_length xs) bits (get_or xs found.0 0) (count_leading_zeros 64 (significand (greatest_bits xs))) long h found.2)

  count_few : (bits b : ℕ) → float_bits b ≤ greatest_bits xs → float_count (row_length xs) bits b ≤ 2 ^ bits
  unfolding float_count float_units
  count_few bits b h = count_most (greatest_bits xs) (float_bits b) bits (count_leading_zeros 64 (significand (greatest_bits xs))) (row_length xs) long h

  row_few : sum (counts_at 31 xs) ≤ length xs * 2147483648
  unfolding counts_at
  row_few = sum_few (float_count (row_length xs) 31) 2147483648 xs (λ k inside. count_few 31 (get_or xs k 0) (greatest_reaches xs k inside))

  row_again : (k least : ℕ) → 31 ≡ least + k → 2 * (sum (counts_at least xs) * 2 ^ k) ≤ 2 * sum (counts_at 31 xs) + length xs * (1 + 2 ^ k)
  unfolding counts_at
  row_again k least all = seconds_low (row_length xs) k least xs all

  -- the number of bits, and the sum with these
  fits_again : (total j : ℕ) → length xs < 2147483648 → total ≡ sum (counts_at 31 xs) → 40 ≤ j → j ≤ 61 → total < 2 ^ suc j → sum (counts_at (31 - (suc j - 39)) xs) < 1099511627776
  fits_again total j short is from upto below =
      let k : ℕ = suc j - 39 in
      let least : ℕ = 31 - (suc j - 39) in
      let all : 31 ≡ least + k = omega (arith, from, upto) in
      let again = row_again k least all in
      let power : 2 ^ suc j ≡ 549755813888 * 2 ^ k = (let e : suc j ≡ 39 + k = omega (arith, from) in ap (λ (x : ℕ). 2 ^ x) e ∙ pow-add 2 39 k) in
      let many : length xs * (1 + 2 ^ k) ≤ 2147483648 * (1 + 2 ^ k) = mul-le-mul_right (1 + 2 ^ k) (omega (arith, short)) in
      let one = pow_pos k in
      let both : sum (counts_at least xs) * 2 ^ k < 1099511627776 * 2 ^ k = omega (arith, again, is, below, power, many, one) in
      lt_of_mul-lt-mul_right (2 ^ k) both

  quick_fits : (total : ℕ) → length xs < 2147483648 → total ≡ sum (counts_at 31 xs) → sum (counts_at (quick_bits total) xs) < 1099511627776
  quick_fits total short is = elim (cases_lt total 1099511627776) [
    | inl less ↦ (let bits = quick_bits_few total less in rw (← bits) (omega (arith, less, is)))
    | inr more ↦
        let most : total < 4611686018427387904 = omega (arith, is, row_few, short) in
        let top = leading_top 128 total (omega (arith, more)) (omega (arith, most)) in
        let j : ℕ = top.0 in
        let from : 40 < suc j = less_by_power 40 (suc j) (omega (arith, more, top.3)) in
        let upto : j < 62 = less_by_power j 62 (omega (arith, most, top.2)) in
        let bits : 31 - (suc j - 39) ≡ quick_bits total = quick_bits_fewer total (31 - (suc j - 39)) more (omega (arith, top.1)) in
        rw (← bits) (fits_again total j short is (omega (arith, from)) (omega (arith, upto)) top.3)
  ]

  quick_some : (total : ℕ) → length xs < 2147483648 → total ≡ sum (counts_at 31 xs) → 1 ≤ quick_bits total
  quick_some total short is = elim (cases_lt total 1099511627776) [
    | inl less ↦ omega (arith, quick_bits_few total less)
    | inr more ↦
        let most : total < 4611686018427387904 = omega (arith, is, row_few, short) in
        let top = leading_top 128 total (omega (arith, more)) (omega (arith, most)) in
        let upto : top.0 < 62 = less_by_power top.0 62 (omega (arith, most, top.2)) in
        let bits : 31 - (suc top.0 - 39) ≡ quick_bits total = quick_bits_fewer total (31 - (suc top.0 - 39)) more (omega (arith, top.1)) in
        omega (arith, bits, upto)
  ]

  long_row : (n : ℕ) → length xs ≡ n → length (quick_counts xs) ≡ n
  unfolding quick_counts counts_at
  long_row n is = length-map xs (float_count (row_length xs) (quick_bits (sum (counts_at 31 xs)))) ∙ is

  -- a row's counts have a table
  pub makes : (precision : ℕ) → precision ≤ 31 → length xs < 2 ^ precision → MakeCategorical precision (quick_counts xs)
  unfolding quick_counts
  makes precision narrow short =
      let few : length xs < 2147483648 = omega (arith, short, pow_le precision 31 narrow) in
      record {
        few = omega (arith, short, long_row (length xs) refl);
        some = row_some (quick_bits (sum (counts_at 31 xs))) (quick_some (sum (counts_at 31 xs)) few refl);
        fits = quick_fits (sum (counts_at 31 xs)) few refl;
      }

pub counts_make : (xs counts : List ℕ) (most precision : ℕ) → counts ≡ quick_counts xs → (most ≡ greatest_bits xs) × (0 < most) × (most < 9218868437227405312) → precision ≤ 31
    → length xs < 2 ^ precision → MakeCategorical precision counts
counts_make xs counts most precision is best narrow short = rw is (makes xs (omega (arith, best.0, best.1)) (omega (arith, best.0, best.2)) precision narrow short)
