use Rattle.std.proofs.Common.{◌≤◌, ◌+◌, ◌-◌, false, replicate}
use Rattle.std.specs.Iterator.{IsFinite}
use Rattle.constriction_symbol.specs.Codewords.{YieldsBits}
use Rattle.constriction_symbol.proofs.taking.count_zeros.Given as goal

-- so many zeros were taken
abbrev pub invariant-loop-count : goal.invariant-loop-count
invariant-loop-count g l = record {
  can : g.I.Iterator.can_next l.source;
  finite : IsFinite (g.I.Iterator.remaining l.fn.source) → IsFinite (g.I.Iterator.remaining l.source);
  within : l.count ≤ l.most + 1;
  taken : YieldsBits g.I.Iterator.next_gives l.fn.source (replicate l.count false) l.source;
}

abbrev pub decreases-loop-count : goal.decreases-loop-count
decreases-loop-count g l = l.most + 1 - l.count
