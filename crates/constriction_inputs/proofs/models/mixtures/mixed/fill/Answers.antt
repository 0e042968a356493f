use Rattle.std.proofs.Common.{◌∙◌, ℕ, ℤ, pos, Some, get_or, ap, arith, refl, rules, w64}
use Rattle.std.proofs.lemmas.Int.{to_z-of_z}
use Rattle.constriction_inputs.specs.Quantized.{below_by}
use Rattle.constriction_inputs.proofs.MixtureTables.{component_more}
use Rattle.constriction_inputs.proofs.models.mixtures.mixed.fill.Goals as goal

pub loop-i-preserved : goal.loop-i-preserved
loop-i-preserved c =
    let i : ℕ = c.loop-i.i in
    let given = c.args in
    let location : ℤ = get_or given.locations.now i (pos 0) in
    let scale : ℕ = get_or given.scales.now i 0 in
    let made = rw c.unwrap.ensures at c.distribution.ensures.ok in
    let below = made ∙ ap (λ (z : ℤ). below_by (Some given.family) z scale) (to_z-of_z w64 location (search rules)) in
    record {
      components = rw c.push_reserved.ensures.items (component_more _ given.family given.weights.now given.locations.now given.scales.now c.loop-i.components.items i
          (record { weight = get_or given.weights.now i 0; distribution = c.unwrap.result }) c.loop-i-test.true c.requires.counted.0 c.requires.counted.1 refl below c.loop-i.invariant.components);
      counted = omega (arith, c.push_reserved.ensures.len, c.loop-i.invariant.counted);
      capacity = c.push_reserved.ensures.capacity ∙ c.loop-i.invariant.capacity;
    }
