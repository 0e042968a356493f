use Rattle.std.proofs.Common.{◌≡◌, ◌+◌, ◌*◌, ◌<◌, take}
use Rattle.std.specs.List.{sum}
use Rattle.constriction_models.proofs.categorical.CategoricalCounts.skip.Given as goal

abbrev pub invariant-loop-block : goal.invariant-loop-block
invariant-loop-block g l = record {
  place : l.first ≡ l._block * 32;
  before : l.before ≡ sum (take l.first l.self.counts.now);
  low : l.before * l.self.spare + l.first * sum l.self.counts.now < l.limit;
}
