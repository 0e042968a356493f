-- Proof that a mixture of distribution functions is a distribution function. A mixture of one component has the
-- component's distribution function, and a component of weight 0 changes nothing.
use Rattle.std.specs.Prelude.{◌≡◌, ℕ, ◌+◌, ◌*◌, ◌/◌, ◌<◌, ◌≤◌, List, [], ◌∷◌, ◌++◌, ℤ, ◌≤ℤ◌}
use Rattle.std.specs.List.{sum_by}
use Rattle.std.proofs.Common.{refl, ap, ◌∙◌, arith}
use Rattle.std.proofs.Math.Nat.{mul-le-mul_left, mul-div_right, div-mul-le_self, div-le_of_le-mul}
use Rattle.std.proofs.Math.Path.{fun_ext}
use Rattle.std.proofs.lemmas.Nat.{le-div}
use Rattle.std.proofs.lemmas.List.Sums.{sum_by-cons, sum_by-append}
use Rattle.constriction_models.specs.declared.mixture.Component.{Component}
use Rattle.constriction_models.specs.Quantized.{IsDistribution}
use Rattle.constriction_models.specs.Mixtures.{Weighted, total_weight, weighted_sum, mixed, weighted}

-- The sum of the products and the sum of the weights, both as sums over the list of components.
pub sum_is : {D : Type 0} (below : D → ℤ → ℕ) (components : List (Component D)) (x : ℤ) → weighted_sum (weighted below components) x ≡ sum_by (λ (c : Component D). c.weight * below c.distribution x) components
sum_is below [] x = refl
sum_is {D} below (c ∷ cs) x =
    let part : Weighted = record { weight = c.weight; below = below c.distribution } in
    omega (arith, sum_is below cs x, sum_by-cons (λ (p : Weighted). p.weight * p.below x) part (weighted below cs), sum_by-cons (λ (c : Component D). c.weight * below c.distribution x) c cs)

pub total_is : {D : Type 0} (below : D → ℤ → ℕ) (components : List (Component D)) → total_weight (weighted below components) ≡ sum_by (λ (c : Component D). c.weight) components
total_is below [] = refl
total_is {D} below (c ∷ cs) =
    let part : Weighted = record { weight = c.weight; below = below c.distribution } in
    omega (arith, total_is below cs, sum_by-cons (λ (p : Weighted). p.weight) part (weighted below cs), sum_by-cons (λ (c : Component D). c.weight) c cs)

-- A quotient rises with its dividend.
pub quotient_rises : (low high d : ℕ) → 0 < d → low ≤ high → low / d ≤ high / d
quotient_rises low high d some order = le-div (low / d) high d some (omega (arith, div-mul-le_self low d))

-- The sum of the products never falls, and is at most 2 ^ 32 times the sum of the weights.
pub sum_rises : {D : Type 0} (below : D → ℤ → ℕ) (components : List (Component D)) → ((d : D) → IsDistribution (below d)) → (x y : ℤ) → x ≤ℤ y → weighted_sum (weighted below components) x ≤ weighted_sum (weighted below components) y
sum_rises below [] are x y order = omega arith
sum_rises below (c ∷ cs) are x y order =
    let here = mul-le-mul_left c.weight ((are c.distribution).rises x y order) in
    let rest = sum_rises below cs are x y order in
    let part : Weighted = record { weight = c.weight; below = below c.distribution } in
    omega (arith, here, rest, sum_by-cons (λ (p : Weighted). p.weight * p.below x) part (weighted below cs), sum_by-cons (λ (p : Weighted). p.weight * p.below y) part (weighted below cs))

pub sum_within : {D : Type 0} (below : D → ℤ → ℕ) (components : List (Component D)) → ((d : D) → IsDistribution (below d)) → (x : ℤ) → weighted_sum (weighted below components) x ≤ total_weight (weighted below components) * 4294967296
sum_within below [] are x = omega arith
sum_within below (c ∷ cs) are x =
    let here = mul-le-mul_left c.weight ((are c.distribution).within x) in
    let rest = sum_within below cs are x in
    let part : Weighted = record { weight = c.weight; below = below c.distribution } in
    omega (arith, here, rest, sum_by-cons (λ (p : Weighted). p.weight * p.below x) part (weighted below cs), sum_by-cons (λ (p : Weighted). p.weight) part (weighted below cs))

-- A mixture is a distribution function, however many components it has.
pub mixed_is_distribution : {D : Type 0} (below : D → ℤ → ℕ) (components : List (Component D)) → ((d : D) → IsDistribution (below d)) → 0 < total_weight (weighted below components) → IsDistribution (mixed (weighted below components))
unfolding mixed
mixed_is_distribution below components are some = record {
  rises = λ x y order. quotient_rises (weighted_sum (weighted below components) x) (weighted_sum (weighted below components) y) (total_weight (weighted below components)) some (sum_rises below components are x y order);
  within = λ x. div-le_of_le-mul (total_weight (weighted below components)) (sum_within below components are x);
}

-- A mixture of one component has exactly that component's distribution function.
pub one_component : (part : Weighted) → 0 < part.weight → mixed (part ∷ []) ≡ part.below
unfolding mixed
one_component part some = fun_ext (λ place.
    let sum : 0 + part.weight * part.below place ≡ part.weight * part.below place = omega arith in
    let total : 0 + part.weight ≡ part.weight = omega arith in
    rw sum (rw total (mul-div_right (part.below place) some)))

-- A component of weight 0 doesn't change the mixture, whatever its position in the list.
pub without_weight : (front back : List Weighted) (part : Weighted) → part.weight ≡ 0 → mixed (front ++ part ∷ back) ≡ mixed (front ++ back)
unfolding mixed
without_weight front back part none =
    fun_ext (λ place.
    let product = λ (p : Weighted). p.weight * p.below place in
    let weight = λ (p : Weighted). p.weight in
    let nothing : part.weight * part.below place ≡ 0 = ap (λ (w : ℕ). w * part.below place) none ∙ omega arith in
    let sums : sum_by product (front ++ part ∷ back) ≡ sum_by product (front ++ back) = omega (arith, nothing, sum_by-append product front (part ∷ back), sum_by-cons product part back, sum_by-append product front back) in
    let totals : sum_by weight (front ++ part ∷ back) ≡ sum_by weight (front ++ back) = omega (arith, none, sum_by-append weight front (part ∷ back), sum_by-cons weight part back, sum_by-append weight front back) in
    rw sums (rw totals refl))
