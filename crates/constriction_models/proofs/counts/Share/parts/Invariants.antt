use Rattle.std.proofs.Common.{◌≡◌, map, take}
use Rattle.std.specs.List.{sum_by}
use Rattle.constriction_models.specs.Counts.{whole, over}
use Rattle.constriction_models.proofs.counts.Share.parts.Given as goal

abbrev pub invariant-loop-count : goal.invariant-loop-count
invariant-loop-count l = record {
  wholes : l.wholes.items ≡ map (whole l.self.limit l.self.mass l.self.rest) (take l.count-index l.counts);
  overs : l.overs.items ≡ map (over l.self.limit l.self.mass l.self.rest) (take l.count-index l.counts);
  total : l.total ≡ sum_by (whole l.self.limit l.self.mass l.self.rest) (take l.count-index l.counts);
}
