use Rattle.std.proofs.Common.{◌≤◌, ◌≡◌, ◌/◌, ◌^◌}
use Rattle.constriction_symbol.proofs.numbers.same_down_to.Given as goal

abbrev pub invariant-loop-left : goal.invariant-loop-left
invariant-loop-left g l = record {
  above : l.to ≤ l.left;
  within : l.left ≤ l.from;
  done : g.To.Natural.number l.same ≡ g.From.Natural.number l.number / 2 ^ l.left;
}

abbrev pub decreases-loop-left : goal.decreases-loop-left
decreases-loop-left g l = l.left
