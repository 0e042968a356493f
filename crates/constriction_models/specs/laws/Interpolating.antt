-- Proof that interpolated functions are distribution functions: they never fall, and no value exceeds 2 ^ 32.
use Rattle.std.specs.Prelude.{◌≡◌, ℕ, zero, suc, ◌+◌, ◌-◌, ◌*◌, ◌/◌, ◌%◌, ◌<◌, ◌≤◌, List, [], ◌∷◌, length, slice_index, true, nat_le, ℤ, pos, negsuc, ◌+ℤ◌, ◌-ℤ◌, ◌≤ℤ◌, ◌<ℤ◌}
use Rattle.std.proofs.Common.{refl, ap, ◌∙◌, inl, inr, arith, leb-true}
use Rattle.std.proofs.Math.Nat.{mul-le-mul_left, mul-le-mul_right, mul-lt-mul_of_pos_right, div-mul-le_self, mul_assoc, mul_comm}
use Rattle.std.proofs.lemmas.Bool.{cases_lt, and_parts}
use Rattle.std.proofs.lemmas.Bool.Decides.{nat_tests}
use Rattle.std.proofs.lemmas.Int.{ints}
use Rattle.constriction_models.specs.Interpolation.{rises_from, AreValues, interpolated, value_at, value_above, value_beyond, interpolate, scaled}
use Rattle.constriction_models.specs.Quantized.{IsDistribution}

-- No number of a list that rises from `low` is below `low`.
pub rises_above : (low : ℕ) (xs : List ℕ) (k : ℕ) → rises_from low xs ≡ true → k < length xs → low ≤ slice_index xs k
unfolding rises_from
rises_above low [] k up inside = absurd (omega arith)
rises_above low (x ∷ xs) zero up inside =
    let parts = and_parts (nat_le low x) (rises_from x xs) up in
    leb-true low x parts.0
rises_above low (x ∷ xs) (suc k) up inside =
    let parts = and_parts (nat_le low x) (rises_from x xs) up in
    let first : low ≤ x = leb-true low x parts.0 in
    omega (arith, rises_above x xs k parts.1 (omega arith))

-- No number of a list that rises from `low` is below an earlier number.
pub rises_along : (low : ℕ) (xs : List ℕ) (i j : ℕ) → rises_from low xs ≡ true → i ≤ j → j < length xs → slice_index xs i ≤ slice_index xs j
unfolding rises_from
rises_along low [] i j up order inside = absurd (omega arith)
rises_along low (x ∷ xs) zero zero up order inside = omega arith
rises_along low (x ∷ xs) zero (suc j) up order inside = rises_above x xs j (and_parts (nat_le low x) (rises_from x xs) up).1 (omega arith)
rises_along low (x ∷ xs) (suc i) zero up order inside = absurd (omega arith)
rises_along low (x ∷ xs) (suc i) (suc j) up order inside = rises_along x xs i j (and_parts (nat_le low x) (rises_from x xs) up).1 (omega arith) (omega arith)

-- A part of a distance is at most the distance.
pub part_within : (long part : ℕ) → part < 65536 → long * part / 65536 ≤ long
part_within long part h =
    let most : part ≤ 65536 = omega arith in
    omega (arith, mul-le-mul_left long most)

pub part_grows : (long low high : ℕ) → low ≤ high → long * low / 65536 ≤ long * high / 65536
part_grows long low high h = omega (arith, mul-le-mul_left long h)

-- An interpolated value lies between its two neighbours.
pub between_within : (values : List ℕ) (k part : ℕ) → AreValues values → k < 2048 → part < 65536 → (slice_index values k ≤ interpolated values k part) × (interpolated values k part ≤ slice_index values (k + 1))
unfolding interpolated
between_within values k part is inside low =
    let up = rises_along 0 values k (k + 1) is.rises (omega arith) (omega (arith, is.len)) in
    let on = part_within (slice_index values (k + 1) - slice_index values k) part low in
    (omega arith, omega (arith, up, on))

same_step : (values : List ℕ) (first second p q : ℕ) → first ≡ second → p ≤ q → interpolated values first p ≤ interpolated values second q
unfolding interpolated
same_step values first second p q e h = rw e (omega (arith, part_grows (slice_index values (second + 1) - slice_index values second) p q h))

-- A greater place never has a smaller value.
pub value_rises : (values : List ℕ) (low high : ℕ) → AreValues values → low ≤ high → high < 134217728 → value_at values low ≤ value_at values high
unfolding value_at
value_rises values low high is order inside =
    let first : ℕ = low / 65536 in
    let second : ℕ = high / 65536 in
    let steps : first ≤ second = omega arith in
    let in_table : second < 2048 = omega arith in
    let before = between_within values first (low % 65536) is (omega arith) (omega arith) in
    let after = between_within values second (high % 65536) is in_table (omega arith) in
    elim (cases_lt first second) [
      | inl less ↦ omega (arith, before.1, after.0, rises_along 0 values (first + 1) second is.rises (omega arith) (omega (arith, is.len)))
      | inr more ↦ same_step values first second (low % 65536) (high % 65536) (omega arith) (omega arith)
    ]

pub value_within : (values : List ℕ) (place : ℕ) → AreValues values → place < 134217728 → value_at values place ≤ 4294967296
unfolding value_at
value_within values place is inside =
    let step : ℕ = place / 65536 in
    let in_table : step < 2048 = omega arith in
    let here = between_within values step (place % 65536) is in_table (omega arith) in
    omega (arith, here.1, rises_along 0 values (step + 1) 2048 is.rises (omega arith) (omega (arith, is.len)), is.last)

-- Two table values enclose each place. The first isn't above the second, and the second is at most 2 ^ 32.
pub values_around : (values : List ℕ) (place : ℕ) → AreValues values → place < 134217728 → (place / 65536 + 1 < length values) × (slice_index values (place / 65536) ≤ slice_index values (place / 65536 + 1)) × (slice_index values (place / 65536 + 1) ≤ 4294967296)
values_around values place is inside =
    let step : ℕ = place / 65536 in
    let in_table : step < 2048 = omega arith in
    (omega (arith, is.len), rises_along 0 values step (step + 1) is.rises (omega arith) (omega (arith, is.len)), omega (arith, rises_along 0 values (step + 1) 2048 is.rises (omega arith) (omega (arith, is.len)), is.last))

-- The product of a number up to 2 ^ 32 and a number below 65536 is at most 2 ^ 48, so it fits 64 bits.
pub part_fits : (long part : ℕ) → long ≤ 4294967296 → part < 65536 → long * part ≤ 281474976710656
part_fits long part short small =
    let most : part ≤ 65536 = omega arith in
    omega (arith, mul-le-mul_left long most)

-- The width of the table, converted by the rate, is at most 2 ^ 27 in 65536ths of a step.
abbrev pub Fits : ℕ → ℕ → Type 0
Fits wide rate = wide * rate ≤ 9223372036854775808

-- The product of a distance within the table and the rate fits 64 bits.
pub product_fits : (wide rate far : ℕ) → Fits wide rate → far < wide → far * rate ≤ 9223372036854775808
product_fits wide rate far fits inside =
    let less : far ≤ wide = omega arith in
    omega (arith, mul-le-mul_right rate less)

pub place_within : (wide rate far : ℕ) → Fits wide rate → far < wide → far * rate / 68719476736 < 134217728
place_within wide zero far fits inside = omega arith
place_within wide (suc rate) far fits inside =
    let less : far * suc rate < wide * suc rate = mul-lt-mul_of_pos_right inside (omega arith) in
    omega arith

pub above_within : (values : List ℕ) (wide rate far : ℕ) → AreValues values → Fits wide rate → value_above values wide rate far ≤ 4294967296
unfolding value_above
above_within values wide rate far is fits =
    elim (cases_lt far wide) [
      | inl inside ↦ (let small = value_within values (far * rate / 68719476736) is (place_within wide rate far fits inside) in grind (arith, nat_tests))
      | inr past ↦ grind (arith, nat_tests)
    ]

pub above_rises : (values : List ℕ) (wide rate low high : ℕ) → AreValues values → Fits wide rate → low ≤ high → value_above values wide rate low ≤ value_above values wide rate high
unfolding value_above
above_rises values wide rate low high is fits order =
    elim (cases_lt high wide) [
      | inl inside ↦ (
          let moved : low * rate ≤ high * rate = mul-le-mul_right rate order in
          let up = value_rises values (low * rate / 68719476736) (high * rate / 68719476736) is (omega arith) (place_within wide rate high fits inside) in
          grind (arith, nat_tests))
      | inr past ↦ (let small = above_within values wide rate low is fits in grind (arith, nat_tests))
    ]

pub beyond_rises : (values : List ℕ) (wide rate : ℕ) (x y : ℤ) → AreValues values → Fits wide rate → x ≤ℤ y → value_beyond values wide rate x ≤ value_beyond values wide rate y
unfolding value_beyond
beyond_rises values wide rate (pos x) (pos y) is fits order = above_rises values wide rate x y is fits (omega (arith, ints))
beyond_rises values wide rate (pos x) (negsuc y) is fits order = absurd (omega (arith, ints))
beyond_rises values wide rate (negsuc x) (pos y) is fits order = omega arith
beyond_rises values wide rate (negsuc x) (negsuc y) is fits order = omega arith

pub beyond_within : (values : List ℕ) (wide rate : ℕ) (x : ℤ) → AreValues values → Fits wide rate → value_beyond values wide rate x ≤ 4294967296
unfolding value_beyond
beyond_within values wide rate (pos x) is fits = above_within values wide rate x is fits
beyond_within values wide rate (negsuc x) is fits = omega arith

-- The value below the table is 0. The next two laws give the values above the table and within it.
pub beyond_none : (values : List ℕ) (wide rate : ℕ) (z : ℤ) → z <ℤ pos 0 → value_beyond values wide rate z ≡ 0
unfolding value_beyond
beyond_none values wide rate (pos n) low = absurd (omega (arith, ints))
beyond_none values wide rate (negsuc n) low = refl

pub beyond_all : (values : List ℕ) (wide rate : ℕ) (z : ℤ) → pos wide ≤ℤ z → value_beyond values wide rate z ≡ 4294967296
unfolding value_beyond value_above
beyond_all values wide rate (pos n) high = (let past : wide ≤ n = omega (arith, ints) in grind (arith, nat_tests))
beyond_all values wide rate (negsuc n) high = absurd (omega (arith, ints))

pub beyond_inside : (values : List ℕ) (wide rate : ℕ) (z : ℤ) (n : ℕ) → z ≡ pos n → n < wide → value_beyond values wide rate z ≡ value_at values (n * rate / 68719476736)
unfolding value_beyond value_above
beyond_inside values wide rate z n is inside = rw is (grind (arith, nat_tests))

pub located_is_distribution : (values : List ℕ) (wide rate : ℕ) (middle : ℤ) → AreValues values → Fits wide rate → IsDistribution (interpolate values wide rate middle)
unfolding interpolate
located_is_distribution values wide rate middle is fits = record {
  rises = λ x y order. beyond_rises values wide rate (x -ℤ middle +ℤ pos (wide / 2)) (y -ℤ middle +ℤ pos (wide / 2)) is fits (omega (arith, ints));
  within = λ x. beyond_within values wide rate (x -ℤ middle +ℤ pos (wide / 2)) is fits;
}

-- A table of `width` scales fits with the rate that `scaled` uses.
pub scaled_fits : (width scale : ℕ) → Fits (width * scale) (9223372036854775808 / width / scale)
scaled_fits width scale =
    let all : ℕ = 9223372036854775808 / width in
    let part : all / scale * scale ≤ all = div-mul-le_self all scale in
    let whole : all * width ≤ 9223372036854775808 = div-mul-le_self 9223372036854775808 width in
    let same : width * scale * (all / scale) ≡ width * (all / scale * scale) = mul_assoc width scale (all / scale) ∙ ap (λ (n : ℕ). width * n) (mul_comm scale (all / scale)) in
    omega (arith, same, mul-le-mul_left width part, mul_comm width all, whole)

pub scaled_is_distribution : (values : List ℕ) (width : ℕ) (location : ℤ) (scale : ℕ) → AreValues values → IsDistribution (scaled values width location scale)
unfolding scaled
scaled_is_distribution values width location scale are = located_is_distribution values (width * scale) (9223372036854775808 / width / scale) location are (scaled_fits width scale)
