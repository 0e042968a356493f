use Rattle.std.specs.Prelude.{ℕ, ◌-◌, ◌<◌, ◌≤◌}
use Rattle.constriction_models.specs.Counts.{AllShare, NoneBelowLimit, IsLimit, IsSplit}
use Rattle.constriction_models.proofs.counts.split_at_least_limit.Given as goal

abbrev pub invariant-loop-split : goal.invariant-loop-split
invariant-loop-split l = record {
  split : IsSplit l.counts l.split.limit l.split.raised l.split.rest;
  fits : l.split.rest < 170141183460469231731687303715884105728;
  some : 1 ≤ l.split.limit;
  within : l.split.limit ≤ l.most;
  least : (other : ℕ) → IsLimit l.counts l.all other → l.split.limit ≤ other;
  fair : AllShare l.counts l.all → NoneBelowLimit l.counts l.split.limit;
}

abbrev pub decreases-loop-split : goal.decreases-loop-split
decreases-loop-split l = l.most - l.split.limit
