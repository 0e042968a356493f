use Rattle.std.specs.Prelude.{◌≡◌, ◌/◌, ℕ}
use Rattle.std.proofs.Common.{ap, sym, ◌∙◌}
use Rattle.std.proofs.Math.Nat.{div-div-eq-div-mul, mul_comm}
use Rattle.constriction_models.proofs.location_scale.scale.Scale.with_inverse.Goals as goal

pub invariant_of-result : goal.invariant_of-result
invariant_of-result g c =
    let most : ℕ = 9223372036854775808 in
    let scale : ℕ = c.args.scale in
    let width : ℕ = g.D.StandardDistribution.WIDTH in
    let swapped : most / scale / width ≡ most / width / scale =
    div-div-eq-div-mul most scale width ∙ (ap (λ k. most / k) (mul_comm scale width) ∙ sym (div-div-eq-div-mul most width scale)) in
    record { rated = ap (λ n. n / c.WIDTH.result) c.requires ∙ (ap (λ k. most / scale / k) c.WIDTH.ensures ∙ swapped) }
