use Rattle.std.proofs.Common.{◌≡◌, take}
use Rattle.std.specs.List.{sum_by}
use Rattle.constriction_models.specs.Counts.{reaches}
use Rattle.constriction_models.proofs.Dividing.{AreBetween}
use Rattle.constriction_models.proofs.counts.between.Given as goal

abbrev pub invariant-loop-measure : goal.invariant-loop-measure
invariant-loop-measure l = record {
  above : l.above ≡ sum_by (reaches l.high) (take l.measure-index l.measures);
  between : AreBetween l.low l.high (take l.measure-index l.measures) l.near.items;
}
