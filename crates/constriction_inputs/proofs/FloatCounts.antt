-- Counts of floats: all are above 0 where they are for weights, and those of rows follow one another.
use Rattle.std.specs.Prelude.{IfErr, OnOk, Result, Ok, Err}
use Rattle.std.proofs.Common.{◌≡◌, ◌∙◌, ℕ, zero, suc, ◌+◌, ◌*◌, ◌/◌, ◌^◌, ◌<◌, ◌≤◌, List, [], ◌∷◌, ◌++◌, length, map, take, drop, true, false, ◌↔◌, refl, ap, inl, inr, subst, sym, append-nil, append_assoc, arith}
use Rattle.std.specs.List.{flat_map, list_all, range_with_len, sum, sum_by}
use Rattle.std.proofs.lemmas.Bool.{cases_Bool, cases_eq, cases_lt, false≢true}
use Rattle.std.proofs.lemmas.Bool.Decides.{nat_tests}
use Rattle.std.proofs.lemmas.List.{drop-drop, drop_at, length-map, take_at}
use Rattle.std.proofs.lemmas.List.Sums.{sum_by-cons}
use Rattle.constriction_models.specs.Counts.{positive}
use Rattle.constriction_models.proofs.FloatTables.{counts_make}
use Rattle.constriction_models.proofs.Floating.{broken, checked, no_units, sound}
use Rattle.constriction_models.specs.Floats.{counts_at, float_count, greatest_bits, greatest_units, quick_bits, is_probability, quick_counts, row_length, weight_count, weight_counts}
use Rattle.constriction_models.specs.declared.floats.FloatsError.{FloatsError}
use Rattle.constriction_models.specs.declared.floats.FloatsError.TheVariants as errors
use Rattle.constriction_inputs.specs.Floats.{AreFloatRows, AreProbabilities, WritesCountsOfFloats, WritesWeightsOfFloats, counts_of_rows}
use Rattle.constriction_inputs.proofs.MixtureTables.{row_ends, row_long}
use Rattle.constriction_inputs.specs.Counts.{AreCountRows}
use Rattle.constriction_inputs.specs.Mixtures.{row_at_index}
use Rattle.constriction_inputs.specs.QuantizedCalls.{WritesWeightsOfCounts}
use Rattle.constriction_inputs.specs.Refusals.{OnlyNoMemory}
use Rattle.constriction_inputs.specs.declared.refusal.Refusal.{Refusal}

positive_one : (len b : ℕ) → positive (weight_count len b) ≡ 1
unfolding positive weight_count
positive_one len b = grind (arith, nat_tests)

all_positive : (len : ℕ) (xs : List ℕ) → sum_by positive (map (weight_count len) xs) ≡ length xs
all_positive len [] = refl
all_positive len (x ∷ xs) = omega (arith, sum_by-cons positive (weight_count len x) (map (weight_count len) xs), positive_one len x, all_positive len xs)

-- all counts of floats are above 0
pub weights_positive : (xs : List ℕ) → sum_by positive (weight_counts xs) ≡ length xs
unfolding weight_counts
weights_positive xs = all_positive (row_length xs) xs

weights_long : (xs : List ℕ) → length (weight_counts xs) ≡ length xs
unfolding weight_counts
weights_long xs = length-map xs (weight_count (row_length xs))

-- some float is above 0
some_floats : (xs : List ℕ) → 0 < greatest_units xs → 0 < length xs
unfolding greatest_units
some_floats [] h = absurd (omega (arith, h))
some_floats (x ∷ xs) h = omega arith

-- floats that have counts
probable : {T : Type 0} (x : T) (floats : List ℕ) → (◌≡◌ {A = Result T FloatsError} (Ok x) (Err errors.Invalid) ↔ (list_all is_probability floats ≡ false))
    → (◌≡◌ {A = Result T FloatsError} (Ok x) (Err errors.Empty) ↔ ((list_all is_probability floats ≡ true) × (greatest_units floats ≡ 0))) → AreProbabilities floats
probable x floats invalid empty =
    let all : list_all is_probability floats ≡ true = elim (cases_Bool (list_all is_probability floats)) [
      | inl fine ↦ fine
      | inr wrong ↦ (let never = invalid.1 wrong in absurd cc)
    ] in (
      all,
      elim (cases_eq (greatest_units floats) 0) [
        | inl none ↦ (let never = empty.1 (all, none) in absurd cc)
        | inr some ↦ omega (arith, some)
      ],
    )

on_ok : (answer : Result (Unit {0}) Refusal) (P : Type 0) → P → OnOk answer P
on_ok (Ok x) P p = p
on_ok (Err e) P p = tt

-- the call for weights of these counts is the one for the floats
weights_by_floats : (precision : ℕ) (floats counts old new : List ℕ) (answer : Result (Unit {0}) Refusal) → counts ≡ weight_counts floats → length old ≡ length floats
    → length floats ≤ 2 ^ precision → AreProbabilities floats → WritesWeightsOfCounts precision counts old new answer → WritesWeightsOfFloats precision floats old new answer
weights_by_floats precision floats counts old new answer is same few all call =
    let some = some_floats floats all.1 in
    let made : WritesWeightsOfCounts precision (weight_counts floats) old new answer = subst (λ (xs : List ℕ). WritesWeightsOfCounts precision xs old new answer) is call in
    let positives = weights_positive floats in
    let long = weights_long floats in
    let others : IfErr answer OnlyNoMemory = elim made.asked [
      | inl wrong ↦ absurd (wrong.0 (omega (arith, same, long)))
      | inr right ↦ elim right.1 [
        | inl wrong ↦ absurd (wrong.0 (omega (arith, some, positives), omega (arith, few, positives)))
        | inr fine ↦ fine.1
      ]
    ] in
    record {
      weights = on_ok answer (WritesWeightsOfCounts precision (weight_counts floats) old new answer) made;
      asked = inr (same, inr ((all, few), others));
      kept = made.kept;
    }

pub weights_by_counts : {T : Type 0} (x : T) (precision : ℕ) (floats counts old new : List ℕ) (answer : Result (Unit {0}) Refusal) → counts ≡ weight_counts floats → length old ≡ length floats
    → length floats ≤ 2 ^ precision → (◌≡◌ {A = Result T FloatsError} (Ok x) (Err errors.Invalid) ↔ (list_all is_probability floats ≡ false))
    → (◌≡◌ {A = Result T FloatsError} (Ok x) (Err errors.Empty) ↔ ((list_all is_probability floats ≡ true) × (greatest_units floats ≡ 0)))
    → WritesWeightsOfCounts precision counts old new answer → WritesWeightsOfFloats precision floats old new answer
weights_by_counts x precision floats counts old new answer is same few invalid empty call = weights_by_floats precision floats counts old new answer is same few (probable x floats invalid empty) call

-- ---- rows
rows_from : (f : ℕ → List ℕ) (a n : ℕ) → flat_map f (range_with_len a (suc n)) ≡ flat_map f (range_with_len a n) ++ f (a + n)
rows_from f a zero = append-nil (f a) ∙ ap f (omega arith)
rows_from f a (suc n) =
    let next : a + 1 + n ≡ a + suc n = omega arith in
    ap (λ (xs : List ℕ). f a ++ xs) (rows_from f (a + 1) n ∙ ap (λ (k : ℕ). flat_map f (range_with_len (a + 1) n) ++ f k) next)
    ∙ sym (append_assoc (f a) (flat_map f (range_with_len (a + 1) n)) (f (a + suc n)))

pub rows_more : (width done : ℕ) (floats row : List ℕ) → row ≡ row_at_index width done floats
    → counts_of_rows width done floats ++ quick_counts row ≡ counts_of_rows width (done + 1) floats
rows_more width done floats row is =
    let next : done + 1 ≡ suc done = omega arith in
    ap (λ (xs : List ℕ). counts_of_rows width done floats ++ quick_counts xs) is
    ∙ sym (rows_from (λ (place : ℕ). quick_counts (row_at_index width place floats)) 0 done ∙ ap (λ (k : ℕ). counts_of_rows width done floats ++ quick_counts (row_at_index width k floats)) (omega arith))
    ∙ ap (λ (k : ℕ). counts_of_rows width k floats) (sym next)

-- the row at a place of rows that follow one another
row_of_rows : (f : ℕ → List ℕ) (width a n place : ℕ) → ((k : ℕ) → k < n → length (f (a + k)) ≡ width) → place < n
    → take width (drop (width * place) (flat_map f (range_with_len a n))) ≡ f (a + place)
row_of_rows f width a zero place long inside = absurd (omega (arith, inside))
row_of_rows f width a (suc n) zero long inside =
    let none : width * 0 ≡ 0 = omega arith in
    let first : a + 0 ≡ a = omega arith in
    let wide : length (f a) ≡ width = rw first at (long 0 (omega arith)) in
    rw (none, first) (take_at (f a) (flat_map f (range_with_len (a + 1) n)) width wide)
row_of_rows f width a (suc n) (suc place) long inside =
    let first : a + 0 ≡ a = omega arith in
    let wide : length (f a) ≡ width = rw first at (long 0 (omega arith)) in
    let split : width * suc place ≡ width + width * place = omega arith in
    let next : a + 1 + place ≡ a + suc place = omega arith in
    let later : (k : ℕ) → k < n → length (f (a + 1 + k)) ≡ width = λ k within. (let same : a + 1 + k ≡ a + suc k = omega arith in rw same (long (suc k) (omega (arith, within)))) in
    let rest : List ℕ = flat_map f (range_with_len (a + 1) n) in
    ap (λ (m : ℕ). take width (drop m (f a ++ rest))) split
    ∙ ap (λ (xs : List ℕ). take width xs) (sym (drop-drop (width * place) width (f a ++ rest)) ∙ ap (λ (xs : List ℕ). drop (width * place) xs) (drop_at (f a) rest width wide))
    ∙ row_of_rows f width (a + 1) n place later (omega (arith, inside)) ∙ ap f next

quick_long : (xs : List ℕ) → length (quick_counts xs) ≡ length xs
unfolding quick_counts counts_at
quick_long xs = length-map xs (float_count (row_length xs) (quick_bits (sum (counts_at 31 xs))))

-- the greatest float of a row of probabilities
best : (xs : List ℕ) → AreProbabilities xs → (0 < greatest_bits xs) × (greatest_bits xs < 9218868437227405312)
best xs all = (
  elim (cases_lt 0 (greatest_bits xs)) [ inl some ↦ some | inr none ↦ absurd (omega (arith, all.1, no_units xs (omega (arith, none)))) ],
  elim (checked xs) [ sound fine below ↦ below | broken wrong from ↦ absurd (false≢true (sym wrong ∙ all.0)) ],
)

-- the counts of each row have a table
pub rows_make : (precision width number : ℕ) (floats counts : List ℕ) → precision ≤ 31 → length floats ≡ width * number → AreFloatRows precision width number floats
    → counts ≡ counts_of_rows width number floats → AreCountRows precision width number counts
rows_make precision width number floats counts narrow counted rows is = λ place inside.
    let long : (k : ℕ) → k < number → length (quick_counts (row_at_index width (0 + k) floats)) ≡ width = λ k within. (
    let none : 0 + k ≡ k = omega arith in
    rw none (quick_long (row_at_index width k floats) ∙ row_long width k floats (omega (arith, row_ends width k number within, counted)))) in
    let none : 0 + place ≡ place = omega arith in
    let row = row_of_rows (λ (k : ℕ). quick_counts (row_at_index width k floats)) width 0 number place long inside in
    let same : row_at_index width place counts ≡ quick_counts (row_at_index width place floats) =
    ap (λ (xs : List ℕ). row_at_index width place xs) is ∙ row ∙ ap (λ (k : ℕ). quick_counts (row_at_index width k floats)) none in
    let fine = rows place inside in
    let most = best (row_at_index width place floats) fine.1 in
    counts_make (row_at_index width place floats) (row_at_index width place counts) (greatest_bits (row_at_index width place floats)) precision same (refl, most.0, most.1) narrow fine.0

pub counts_written : (precision width number : ℕ) (floats old new : List ℕ) → precision ≤ 31 → number ≡ length floats / width → length old ≡ length floats → length floats ≡ width * number
    → AreFloatRows precision width number floats → new ≡ counts_of_rows width number floats → WritesCountsOfFloats precision width floats old new (Ok tt)
counts_written precision width number floats old new narrow number_is same counted rows is = record {
  counts = subst (λ (n : ℕ). new ≡ counts_of_rows width n floats) number_is is;
  tables = subst (λ (n : ℕ). AreCountRows precision width n new) number_is (rows_make precision width number floats new narrow counted rows is);
  asked = inr ((same, subst (λ (n : ℕ). length floats ≡ width * n) number_is counted), inr (subst (λ (n : ℕ). AreFloatRows precision width n floats) number_is rows, tt));
  kept = tt;
}
