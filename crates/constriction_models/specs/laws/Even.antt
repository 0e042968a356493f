-- Proof that the entries of a uniform model make a table, and laws of the division that finds a quantile's symbol.
use Rattle.std.specs.Prelude.{◌≡◌, ℕ, suc, ◌+◌, ◌-◌, ◌*◌, ◌/◌, ◌^◌, ◌<◌, ◌≤◌, length}
use Rattle.std.proofs.Common.{refl, inl, inr, arith}
use Rattle.std.proofs.Math.Nat.{div-mul-le_self, mul-div-le, lt-mul-div-succ, mul_comm, mul-le-mul_right, mul-lt-mul_of_pos_right}
use Rattle.std.proofs.lemmas.Nat.{le-div}
use Rattle.std.proofs.lemmas.Bool.{cases_lt}
use Rattle.std.proofs.lemmas.Bool.Decides.{nat_tests}
use Rattle.constriction_base.specs.Tables.{Has, Impossible, IsTable}
use Rattle.constriction_models.specs.Cuts.{IsCut, IsProperInterval}
use Rattle.constriction_models.specs.Uniform.{even_start, uniform}
use Rattle.constriction_models.specs.laws.Cutting.{cut_is_table, cut_entry, cut_impossible, cut_interval, length-cut}

pub even_inside : (all count k : ℕ) → k < count → even_start all count k ≡ k * (all / count)
unfolding even_start
even_inside all count k inside = grind (arith, nat_tests)

pub even_end : (all count k : ℕ) → count ≤ k → even_start all count k ≡ all
unfolding even_start
even_end all count k past = grind (arith, nat_tests)

-- The equal share is above 0.
pub part_some : (all count : ℕ) → 0 < count → count ≤ all → 0 < all / count
part_some all count some room = let one : 1 ≤ all / count = le-div 1 all count some (omega arith) in omega arith

next_part : (all count k : ℕ) → 0 < count → count ≤ all → k * (all / count) < suc k * (all / count)
next_part all count k some room = let less : k < suc k = omega arith in mul-lt-mul_of_pos_right less (part_some all count some room)

pub even_is_cut : (all count : ℕ) → 0 < count → count ≤ all → IsCut (even_start all count) count all
even_is_cut all count some room = record {
  first = omega (arith, even_inside all count 0 some);
  up = λ k inside. elim (cases_lt (suc k) count) [
    | inl more ↦ omega (arith, even_inside all count k inside, even_inside all count (suc k) more, next_part all count k some room)
    | inr last ↦ (
        let here : suc k ≡ count = omega arith in
        let whole : suc k * (all / count) ≤ all = rw here (mul-div-le all count) in
        omega (arith, even_inside all count k inside, even_end all count (suc k) (omega arith), next_part all count k some room, whole))
  ];
  last = even_end all count count (omega arith);
}

pub uniform_is_table : (precision count : ℕ) → 2 ≤ count → count ≤ 2 ^ precision → IsTable precision (uniform precision count)
unfolding uniform
uniform_is_table precision count some room = cut_is_table precision (λ k. k) (even_start (2 ^ precision) count) count (λ i j same. same) (even_is_cut (2 ^ precision) count (omega arith) room)

pub uniform_two : (precision count : ℕ) → 2 ≤ count → 2 ≤ length (uniform precision count)
unfolding uniform
uniform_two precision count some = omega (arith, length-cut (λ (k : ℕ). k) (even_start (2 ^ precision) count) 0 count)

pub uniform_has : (precision count k l p : ℕ) → k < count → l ≡ even_start (2 ^ precision) count k → p ≡ even_start (2 ^ precision) count (k + 1) - l → Has (uniform precision count) k l p
unfolding uniform
uniform_has precision count k l p inside begins long = cut_entry (λ k. k) (even_start (2 ^ precision) count) count k k l p inside refl begins long

pub uniform_impossible : (precision count s : ℕ) → count ≤ s → Impossible (uniform precision count) s
unfolding uniform
uniform_impossible precision count s past = cut_impossible (λ k. k) (even_start (2 ^ precision) count) count s (λ k inside is. omega (arith, is))

pub uniform_interval : (precision count k : ℕ) → 2 ≤ count → count ≤ 2 ^ precision → k < count → IsProperInterval (even_start (2 ^ precision) count k) (even_start (2 ^ precision) count (k + 1)) (2 ^ precision)
uniform_interval precision count k some room inside = cut_interval (even_start (2 ^ precision) count) count (2 ^ precision) k (even_is_cut (2 ^ precision) count (omega arith) room) some inside

-- If k is at most the quantile divided by the equal share, the interval of symbol k begins at or below the quantile.
pub even_low : (all count q k : ℕ) → k < count → k ≤ q / (all / count) → even_start all count k ≤ q
even_low all count q k inside before =
    let part : ℕ = all / count in
    omega (arith, even_inside all count k inside, mul-le-mul_right part before, div-mul-le_self q part)

-- If k is at least the quantile divided by the equal share, the interval of symbol k ends above the quantile.
pub even_high : (all count q k : ℕ) → 0 < count → count ≤ all → q < all → q / (all / count) ≤ k → q < even_start all count (k + 1)
even_high all count q k some room inside behind =
    elim (cases_lt (k + 1) count) [
      | inl more ↦ (
          let part : ℕ = all / count in
          let next : q < part * (q / part + 1) = lt-mul-div-succ q (part_some all count some room) in
          let least : q / part + 1 ≤ k + 1 = omega arith in
          omega (arith, even_inside all count (k + 1) more, next, mul_comm part (q / part + 1), mul-le-mul_right part least))
      | inr last ↦ omega (arith, even_end all count (k + 1) last)
    ]
