use Rattle.std.proofs.Common.{◌≡◌, ◌≤◌, take}
use Rattle.std.specs.List.{sum_by}
use Rattle.constriction_models.proofs.mixture.Mixture.new.Given as goal

abbrev pub invariant-loop-component : goal.invariant-loop-component
invariant-loop-component g l =
    record {
      sum : l.total ≡ sum_by (λ c. c.weight) (take l.component-index l.components);
      most : l.total ≤ 4294967296;
    }
