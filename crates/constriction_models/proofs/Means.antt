-- The sum over a mixture's components, and its quotient by a product, which is the quotient or one less.
use Rattle.std.specs.Prelude.{◌≡◌, ℕ, suc, ◌+◌, ◌-◌, ◌*◌, ◌/◌, ◌%◌, ◌<◌, ◌≤◌, List, ℤ, length, take, get_or}
use Rattle.std.specs.List.{sum_by}
use Rattle.std.proofs.Common.{sym, ap, ◌∙◌, arith}
use Rattle.std.proofs.Math.Nat.{mul-le-mul_right, mul-le-mul_left, le_of_mul-le-mul_right, lt_of_mul-lt-mul_right}
use Rattle.std.proofs.lemmas.Nat.{mod_below, div-add-mod'}
use Rattle.std.proofs.lemmas.List.{take_all}
use Rattle.std.proofs.lemmas.List.Sums.{sum_by_more_le, sum_by-take-le}
use Rattle.constriction_models.specs.declared.mixture.Component.{Component}
use Rattle.constriction_models.specs.Quantized.{IsDistribution}
use Rattle.constriction_models.specs.Mixtures.{mixed, weighted, weighted_sum, total_weight}
use Rattle.constriction_models.specs.laws.Mixing.{sum_is, sum_within}
use Rattle.constriction_models.proofs.Dividing.{quotient_of}

-- the product's high half is the quotient, or one less
pub record IsNearly (sum total near : ℕ) : Type 0 where
  pub low : near * total ≤ sum
  pub high : sum < near * total + total + total

pub is_nearly : (sum total rate near : ℕ) → 0 < total → sum < 18446744073709551616 → rate ≡ 18446744073709551615 / total → near ≡ sum * rate / 18446744073709551616 → IsNearly sum total near
is_nearly sum total rate near some fits rate_is near_is =
    let e : ℕ = 18446744073709551615 % total in
    let f : ℕ = sum * rate % 18446744073709551616 in
    let rated : rate * total + e ≡ 18446744073709551615 = rw rate_is (div-add-mod' 18446744073709551615 total) in
    let e_low : e < total = mod_below 18446744073709551615 total some in
    let neared : near * 18446744073709551616 + f ≡ sum * rate = rw near_is (div-add-mod' (sum * rate) 18446744073709551616) in
    let f_low : f < 18446744073709551616 = mod_below (sum * rate) 18446744073709551616 (omega arith) in
    let all : sum * (rate * total + e) ≡ sum * 18446744073709551615 = ap (λ y. sum * y) rated in
    let part : (near * 18446744073709551616 + f) * total ≡ sum * rate * total = ap (λ y. y * total) neared in
    let f_most : suc f * total ≤ 18446744073709551616 * total = mul-le-mul_right total f_low in
    let e_most : sum * suc e ≤ sum * total = mul-le-mul_left sum e_low in
    let s_most : sum * total ≤ 18446744073709551616 * total = mul-le-mul_right total (omega (arith, fits)) in
    record {
      low = le_of_mul-le-mul_right {k = 18446744073709551616} (omega (arith, all, part)) (omega arith);
      high = lt_of_mul-lt-mul_right 18446744073709551616 (omega (arith, all, part, f_most, e_most, s_most));
    }

-- both answers
pub nearly_more : (sum total near : ℕ) → IsNearly sum total near → total ≤ sum - near * total → near + 1 ≡ sum / total
nearly_more sum total near is more = quotient_of sum total (near + 1) (omega (arith, is.low, more)) (omega (arith, is.high))

pub nearly_same : (sum total near : ℕ) → IsNearly sum total near → sum - near * total < total → near ≡ sum / total
nearly_same sum total near is less = quotient_of sum total near is.low (omega (arith, is.low, less))

-- ---- the sum of the components up to an index
module _ {D : Type 0} (below : D → ℤ → ℕ) (components : List (Component D)) (place : ℤ) (i sum : ℕ) where
  abbrev pub upto : ℕ
  upto = sum_by (λ (c : Component D). c.weight * below c.distribution place) (take i components)

  pub upto_within : (total : ℕ) → ((d : D) → IsDistribution (below d)) → sum ≡ upto → total ≡ total_weight (weighted below components) → sum ≤ total * 4294967296
  upto_within total are is summed =
      omega (arith, is, summed, sum_by-take-le (λ (c : Component D). c.weight * below c.distribution place) components i, sum_is below components place, sum_within below components are place)

  pub upto_more : (item : Component D) → ((d : D) → IsDistribution (below d)) → i < length components → item ≡ get_or components i item → sum ≡ upto → total_weight (weighted below components) ≤ 4294967296 → sum + item.weight * below item.distribution place ≤ 18446744073709551616
  upto_more item are inside is_item is most =
      let product = λ (c : Component D). c.weight * below c.distribution place in
      omega (arith, is, most, ap product is_item, sum_by_more_le product components i item inside, sum_is below components place, sum_within below components are place)

  pub upto_all : (mean total : ℕ) → length components ≤ i → sum ≡ upto → total ≡ total_weight (weighted below components) → mean ≡ sum / total → mean ≡ mixed (weighted below components) place
  unfolding mixed
  upto_all mean total all is summed divided =
      let whole : sum ≡ weighted_sum (weighted below components) place = is ∙ ap (sum_by (λ (c : Component D). c.weight * below c.distribution place)) (take_all i components all) ∙ sym (sum_is below components place) in
      divided ∙ ap (λ (n : ℕ). n / total) whole ∙ ap (λ (n : ℕ). weighted_sum (weighted below components) place / n) summed
