use Rattle.std.proofs.Common.{◌≡◌, ◌≤◌, ◌+◌, ◌*◌, ◌^◌, Bool, List, length}
use Rattle.std.specs.Iterator.{IsFinite}
use Rattle.constriction_symbol.specs.Codewords.{YieldsBits}
use Rattle.constriction_symbol.specs.Golomb.{number_after}
use Rattle.constriction_symbol.proofs.taking.read_bits.Given as goal

-- these bits were taken
abbrev pub invariant-loop-left : goal.invariant-loop-left
invariant-loop-left g l = record {
  can : g.I.Iterator.can_next l.source;
  finite : IsFinite (g.I.Iterator.remaining l.fn.source) → IsFinite (g.I.Iterator.remaining l.source);
  fits : (g.N.Natural.number l.number + 1) * 2 ^ l.left ≤ 2 ^ g.N.Natural.BITS;
  taken : List Bool;
  len : length taken + l.left ≡ l.count;
  value : g.N.Natural.number l.number ≡ number_after (g.N.Natural.number l.fn.start) taken;
  gives : YieldsBits g.I.Iterator.next_gives l.fn.source taken l.source;
}

abbrev pub decreases-loop-left : goal.decreases-loop-left
decreases-loop-left g l = l.left
