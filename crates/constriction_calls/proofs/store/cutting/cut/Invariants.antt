use Rattle.std.proofs.Common.{◌≡◌, ◌+◌, ◌≤◌, ◌++◌, drop, length}
use Rattle.std.specs.Prelude.{sum}
use Rattle.constriction_store.specs.Chunks.{lists_of}
use Rattle.constriction_calls.specs.StoreCalls.{chunks_by}
use Rattle.constriction_calls.proofs.store.cutting.cut.Given as goal

-- the chunks so far, and those of the symbols that are left
abbrev pub invariant-loop-i : goal.invariant-loop-i
invariant-loop-i l =
    record {
      left : l.start + sum (drop l.i l.lengths) ≤ length l.symbols;
      made : lists_of l.chunks.items ++ chunks_by (drop l.start l.symbols) (drop l.i l.lengths) ≡ chunks_by l.symbols l.lengths;
    }
