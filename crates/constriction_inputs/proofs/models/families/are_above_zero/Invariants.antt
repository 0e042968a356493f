use Rattle.std.proofs.Common.{◌<◌, drop}
use Rattle.std.specs.List.{AllByRecursion}
use Rattle.constriction_inputs.proofs.models.families.are_above_zero.Given as goal

abbrev pub invariant-loop-scale : goal.invariant-loop-scale
invariant-loop-scale l = record {
  before : AllByRecursion (λ scale. 0 < scale) (drop l.scale-index l.scales) → AllByRecursion (λ scale. 0 < scale) l.scales;
  behind : AllByRecursion (λ scale. 0 < scale) l.scales → AllByRecursion (λ scale. 0 < scale) (drop l.scale-index l.scales);
}
