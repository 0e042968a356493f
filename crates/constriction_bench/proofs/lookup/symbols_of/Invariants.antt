use Rattle.std.proofs.Common.{◌≡◌, ℕ, ◌<◌, length, slice_index}
use Rattle.constriction_bench.specs.Starts.{HoldsQuantile}
use Rattle.constriction_bench.proofs.lookup.symbols_of.Given as goal

abbrev pub invariant-loop-quantile : goal.invariant-loop-quantile
invariant-loop-quantile l = (length l.symbols.items ≡ l.quantile) × ((q : ℕ) → q < l.quantile → HoldsQuantile l.starts l.count (slice_index l.symbols.items q) q)
