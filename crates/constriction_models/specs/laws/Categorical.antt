-- Proof that the entries of a row of counts make a table, and laws of the comparison that finds a quantile's symbol.
use Rattle.std.specs.Prelude.{◌≡◌, ℕ, suc, ◌+◌, ◌-◌, ◌*◌, ◌/◌, ◌^◌, ◌<◌, ◌≤◌, List, length, take}
use Rattle.std.specs.List.{sum}
use Rattle.std.proofs.Common.{refl, ap, ◌∙◌, arith}
use Rattle.std.proofs.Math.Nat.{add-mul-div_right, mul-div_cancel, div-mul-le_self, mul-le-mul_right}
use Rattle.std.proofs.lemmas.Nat.{le-div, div_below}
use Rattle.std.proofs.lemmas.List.{take_all}
use Rattle.std.proofs.lemmas.List.Sums.{sum_by_more}
use Rattle.constriction_base.specs.Tables.{Has, Impossible, IsTable}
use Rattle.constriction_models.specs.Cuts.{IsCut}
use Rattle.constriction_models.specs.Categorical.{shared_start, categorical}
use Rattle.constriction_models.specs.laws.Cutting.{cut_is_table, cut_entry, cut_impossible, starts_grow}

-- A quotient grows with the number that is divided.
quotient_grows : (a b total : ℕ) → 0 < total → a ≤ b → a / total ≤ b / total
quotient_grows a b total some order = le-div (a / total) b total some (omega (arith, div-mul-le_self a total))

-- All counts before the end are all counts.
sum_whole : (counts : List ℕ) → sum (take (length counts) counts) ≡ sum counts
sum_whole counts = ap (λ xs. sum xs) (take_all (length counts) counts (omega arith))

pub start_last : (all : ℕ) (counts : List ℕ) → length counts ≤ all → 0 < sum counts → shared_start all counts (length counts) ≡ all
unfolding shared_start
start_last all counts room some =
    let spare : ℕ = all - length counts in
    let whole : sum (take (length counts) counts) * spare ≡ spare * sum counts = omega (arith, ap (λ (n : ℕ). n * spare) (sum_whole counts)) in
    let share : sum (take (length counts) counts) * spare / sum counts ≡ spare = ap (λ (n : ℕ). n / sum counts) whole ∙ mul-div_cancel spare some in
    omega (arith, share, room)

start_up : (all : ℕ) (counts : List ℕ) (k : ℕ) → 0 < sum counts → k < length counts → shared_start all counts k < shared_start all counts (suc k)
unfolding shared_start
start_up all counts k some inside =
    let spare : ℕ = all - length counts in
    let next : suc k ≡ k + 1 = omega arith in
    let more : sum (take k counts) ≤ sum (take (suc k) counts) = rw next (omega (arith, sum_by_more (λ (x : ℕ). x) counts k 0 inside)) in
    omega (arith, quotient_grows (sum (take k counts) * spare) (sum (take (suc k) counts) * spare) (sum counts) some (mul-le-mul_right spare more))

start_first : (all : ℕ) (counts : List ℕ) → 0 < sum counts → shared_start all counts 0 ≡ 0
unfolding shared_start
start_first all counts some =
    let none : sum (take 0 counts) * (all - length counts) < 1 * sum counts = omega (arith, some) in
    omega (arith, div_below (sum (take 0 counts) * (all - length counts)) (sum counts) 1 some none)

pub shared_is_cut : (all : ℕ) (counts : List ℕ) → length counts ≤ all → 0 < sum counts → IsCut (shared_start all counts) (length counts) all
shared_is_cut all counts room some = record {
  first = start_first all counts some;
  up = λ k inside. start_up all counts k some inside;
  last = start_last all counts room some;
}

pub categorical_is_table : (precision spare : ℕ) (counts : List ℕ) → spare + length counts ≡ 2 ^ precision → 0 < sum counts → IsTable precision (categorical precision counts)
unfolding categorical
categorical_is_table precision spare counts shared some =
    cut_is_table precision (λ k. k) (shared_start (2 ^ precision) counts) (length counts) (λ i j same. same) (shared_is_cut (2 ^ precision) counts (omega (arith, shared)) some)

pub below_is_within : (precision bits : ℕ) → precision < bits → precision ≤ bits
below_is_within precision bits fits = omega arith

-- A precision below the number of bits isn't that number.
pub categorical_two : (precision bits : ℕ) (counts : List ℕ) → precision < bits → precision ≡ bits → 2 ≤ length (categorical precision counts)
categorical_two precision bits counts fits full = absurd (omega (arith, fits, full))

pub categorical_has : (precision : ℕ) (counts : List ℕ) (k l p : ℕ) → k < length counts → l ≡ shared_start (2 ^ precision) counts k → p ≡ shared_start (2 ^ precision) counts (k + 1) - l → Has (categorical precision counts) k l p
unfolding categorical
categorical_has precision counts k l p inside begins long = cut_entry (λ k. k) (shared_start (2 ^ precision) counts) (length counts) k k l p inside refl begins long

pub categorical_impossible : (precision : ℕ) (counts : List ℕ) (s : ℕ) → length counts ≤ s → Impossible (categorical precision counts) s
unfolding categorical
categorical_impossible precision counts s past = cut_impossible (λ k. k) (shared_start (2 ^ precision) counts) (length counts) s (λ k inside is. omega (arith, is))

-- Where symbol k's interval lies.
pub record IsInside (left next all : ℕ) : Type 0 where
  pub some : left < next
  pub inside : next ≤ all

pub shared_interval : (precision spare : ℕ) (counts : List ℕ) (k : ℕ) → spare + length counts ≡ 2 ^ precision → 0 < sum counts → k < length counts → IsInside (shared_start (2 ^ precision) counts k) (shared_start (2 ^ precision) counts (k + 1)) (2 ^ precision)
shared_interval precision spare counts k shared some inside =
    let cut = shared_is_cut (2 ^ precision) counts (omega (arith, shared)) some in
    let here = starts_grow (shared_start (2 ^ precision) counts) (length counts) (2 ^ precision) k (k + 1) cut (omega arith) (omega arith) in
    let after = starts_grow (shared_start (2 ^ precision) counts) (length counts) (2 ^ precision) (k + 1) (length counts) cut (omega arith) (omega arith) in
    record { some = omega (arith, here); inside = omega (arith, after, cut.last) }

-- A start times the sum of the counts, before it is rounded down.
scaled_start : (all spare : ℕ) (counts : List ℕ) (k before : ℕ) → spare + length counts ≡ all → 0 < sum counts → before ≡ sum (take k counts) → (before * spare + k * sum counts) / sum counts ≡ shared_start all counts k
unfolding shared_start
scaled_start all spare counts k before shared some is =
    let rest : spare ≡ all - length counts = omega (arith, shared) in
    add-mul-div_right (before * spare) k some ∙ rw (rest, is) refl

-- Symbol k begins at or below quantile q if its start, scaled, is below that of q + 1.
pub start_low : (all spare : ℕ) (counts : List ℕ) (k before q : ℕ) → spare + length counts ≡ all → 0 < sum counts → before ≡ sum (take k counts) → before * spare + k * sum counts < (q + 1) * sum counts → shared_start all counts k ≤ q
start_low all spare counts k before q shared some is less =
    omega (arith, scaled_start all spare counts k before shared some is, div_below (before * spare + k * sum counts) (sum counts) (q + 1) some less)

-- Symbol k begins above quantile q if its start, scaled, is at least that of q + 1.
pub start_high : (all spare : ℕ) (counts : List ℕ) (k before q : ℕ) → spare + length counts ≡ all → 0 < sum counts → before ≡ sum (take k counts) → (q + 1) * sum counts ≤ before * spare + k * sum counts → q < shared_start all counts k
start_high all spare counts k before q shared some is more =
    omega (arith, scaled_start all spare counts k before shared some is, le-div (q + 1) (before * spare + k * sum counts) (sum counts) some more)

-- The start that a look-up computes, from the sum of the counts before the symbol.
pub start_is : (all spare total : ℕ) (counts : List ℕ) (k before : ℕ) → spare + length counts ≡ all → total ≡ sum counts → before ≡ sum (take k counts) → before * spare / total + k ≡ shared_start all counts k
unfolding shared_start
start_is all spare total counts k before shared summed is =
    let rest : spare ≡ all - length counts = omega (arith, shared) in
    rw (rest, summed, is) refl

-- Each symbol that has a count has an entry.
pub categorical_known : (precision : ℕ) (counts : List ℕ) (symbol : ℕ) → symbol < length counts → (l p : ℕ) × Has (categorical precision counts) symbol l p
categorical_known precision counts symbol inside =
    let start : ℕ → ℕ = shared_start (2 ^ precision) counts in
    (start symbol, start (symbol + 1) - start symbol, categorical_has precision counts symbol (start symbol) (start (symbol + 1) - start symbol) inside refl refl)
