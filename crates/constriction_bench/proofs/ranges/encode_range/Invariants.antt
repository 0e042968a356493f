use Rattle.std.proofs.Common.{◌≤◌, length}
use Rattle.constriction_bench.proofs.ranges.encode_range.Given as goal

abbrev pub invariant-loop-place : goal.invariant-loop-place
invariant-loop-place g l = length l.encoder.held ≤ l.place
