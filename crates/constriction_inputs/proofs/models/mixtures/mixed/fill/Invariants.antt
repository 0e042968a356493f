use Rattle.std.proofs.Common.{◌≡◌, Some, take, vec_capacity, vec_len}
use Rattle.constriction_models.specs.Mixtures.{weighted}
use Rattle.constriction_models.specs.Families.{below_of_one}
use Rattle.constriction_models.specs.Interpolation.{scaled}
use Rattle.constriction_models.specs.Laplace.{laplace_values}
use Rattle.constriction_models.specs.Logistic.{logistic_values}
use Rattle.constriction_models.specs.Normal.{normal_values}
use Rattle.constriction_inputs.specs.Mixtures.{components_of}
use Rattle.constriction_inputs.proofs.models.mixtures.mixed.fill.Given as goal

abbrev pub invariant-loop-i : goal.invariant-loop-i
invariant-loop-i l = record {
  components : weighted (below_of_one (λ d. scaled normal_values 16 d.location d.scale) (λ d. scaled laplace_values 64 d.location d.scale) (λ d. scaled logistic_values 64 d.location d.scale)) l.components.items
      ≡ components_of (Some l.family) (take l.i l.weights) (take l.i l.locations) (take l.i l.scales);
  counted : vec_len l.components ≡ l.i;
  capacity : vec_capacity l.components ≡ vec_capacity l.initial.components;
}
