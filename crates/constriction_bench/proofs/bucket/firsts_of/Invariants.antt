use Rattle.std.proofs.Common.{◌≡◌, ℕ, ◌<◌, length, slice_index}
use Rattle.constriction_bench.specs.Starts.{BeginsBefore}
use Rattle.constriction_bench.proofs.bucket.firsts_of.Given as goal

abbrev pub invariant-loop-part : goal.invariant-loop-part
invariant-loop-part l = (length l.firsts.items ≡ l.part) × ((part : ℕ) → part < l.part → BeginsBefore l.starts l.count (slice_index l.firsts.items part) part)
