use Rattle.std.proofs.Common.{◌≡◌, ℕ, ◌+◌, ◌<◌, ◌≤◌, get_or}
use Rattle.constriction_lanes.proofs.encoding.greatest_sum.Given as goal

abbrev pub invariant-loop-j : goal.invariant-loop-j
invariant-loop-j l = record {
  each : (k : ℕ) → k < l.j → get_or l.lens k 0 + get_or l.counts k 0 ≤ l.greatest;
  one : 0 < l.greatest → (k : ℕ) × (k < l.j) × (get_or l.lens k 0 + get_or l.counts k 0 ≡ l.greatest);
}
