use Rattle.std.specs.Prelude.{◌≡◌, ℕ, ◌+◌, drop}
use Rattle.constriction_base.specs.Readings.{NeverRefused, ReadsUpTo}
use Rattle.constriction_base.proofs.backends.taking.take_back.Given as goal

abbrev pub invariant-loop-i : goal.invariant-loop-i
invariant-loop-i g l =
    record {
      reads : (left : ℕ) (after : g.row.Backend.Denot) → ReadsUpTo g.Backend.ReadWords.reads left l.bulk after → ReadsUpTo g.Backend.ReadWords.reads (l._i + left) l.initial.bulk after;
      words : NeverRefused g.Backend.ReadWords.reads → g.Backend.Holds.words l.bulk ≡ drop l._i (g.Backend.Holds.words l.initial.bulk);
    }
