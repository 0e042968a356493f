use Rattle.std.proofs.Common.{◌≡◌, ◌+◌, map, take}
use Rattle.constriction_store.specs.Stores.{EntriesWithin, entry_at, total_of}
use Rattle.constriction_store.proofs.parts.index_fits.Given as goal

abbrev pub invariant-loop-entry : goal.invariant-loop-entry
invariant-loop-entry g l = record {
  total : l.left + total_of (map entry_at (take l.entry-index l.index)) ≡ 1048576;
  places : EntriesWithin l.count (map entry_at (take l.entry-index l.index));
}
