use Rattle.std.proofs.Common.{◌≡◌, ◌≤◌, take}
use Rattle.std.specs.List.{sum}
use Rattle.constriction_inputs.proofs.models.mixtures.weighing.is_mixable.Given as goal

abbrev pub invariant-loop-weight : goal.invariant-loop-weight
invariant-loop-weight l = record {
  sum : l.total ≡ sum (take l.weight-index l.weights);
  most : l.total ≤ 4294967296;
}
