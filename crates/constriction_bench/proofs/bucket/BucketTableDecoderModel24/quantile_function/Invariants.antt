use Rattle.std.proofs.Common.{◌-◌, ◌<◌, ◌≤◌, slice_index}
use Rattle.constriction_bench.proofs.bucket.BucketTableDecoderModel24.quantile_function.Given as goal

abbrev pub invariant-loop-symbol : goal.invariant-loop-symbol
invariant-loop-symbol l = (l.symbol < l.self.count) × (slice_index l.self.starts.items l.symbol ≤ l.quantile)

abbrev pub decreases-loop-symbol : goal.decreases-loop-symbol
decreases-loop-symbol l = l.self.count - l.symbol
