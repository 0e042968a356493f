use Rattle.std.proofs.Common.{◌≡◌, ◌+◌, ◌*◌, ◌<◌, take}
use Rattle.std.specs.List.{sum}
use Rattle.constriction_models.proofs.categorical.CategoricalCounts.symbol_at.Given as goal

abbrev pub invariant-loop-symbol : goal.invariant-loop-symbol
invariant-loop-symbol g l = record {
  before : l.before ≡ sum (take l.symbol l.self.counts.now);
  low : l.before * l.self.spare + l.symbol * sum l.self.counts.now < (l.quantile + 1) * sum l.self.counts.now;
}
