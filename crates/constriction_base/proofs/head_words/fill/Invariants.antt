use Rattle.std.specs.Prelude.{◌+◌, ◌-◌, ◌^◌, ◌<◌, ◌≡◌, ◌≤◌}
use Rattle.constriction_base.specs.Readings.{MovesIn}
use Rattle.constriction_base.proofs.head_words.fill.Given as goal

abbrev pub invariant-loop-bulk : goal.invariant-loop-bulk
invariant-loop-bulk g l =
    let w = g.Word.Natural.BITS in
    let n = g.State.Natural.number l.full in
    record {
      some : 0 < n;
      below : g.State.Natural.number l.fn.head < 2 ^ (l.bits + w) → n < 2 ^ (l.bits + w);
      untouched : 2 ^ l.bits ≤ g.State.Natural.number l.fn.head → (l.full ≡ l.fn.head) × (l.bulk ≡ l.initial.bulk);
      moved : MovesIn g.Word.Natural.number g.Backend.Holds g.Backend.ReadWords w (g.State.Natural.number l.fn.head) l.initial.bulk n l.bulk;
    }

abbrev pub decreases-loop-bulk : goal.decreases-loop-bulk
decreases-loop-bulk g l = 2 ^ g.State.Natural.BITS - g.State.Natural.number l.full
