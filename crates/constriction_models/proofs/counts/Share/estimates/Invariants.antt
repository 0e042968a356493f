use Rattle.std.proofs.Common.{◌≡◌, length, map, take}
use Rattle.constriction_models.specs.Counts.{share_estimate}
use Rattle.constriction_models.proofs.counts.Share.estimates.Given as goal

abbrev pub invariant-loop-count : goal.invariant-loop-count
invariant-loop-count l = record {
  shares : l.shares.items ≡ map (share_estimate l.self.limit l.self.mass l.self.rest) (take l.count-index l.counts);
  held : length l.held ≡ 256;
}
