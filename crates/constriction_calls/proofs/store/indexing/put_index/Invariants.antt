use Rattle.std.proofs.Common.{◌≡◌, length, map, take}
use Rattle.constriction_store.specs.Stores.{entry_at}
use Rattle.constriction_calls.proofs.store.indexing.put_index.Given as goal

-- the lists so far are those of the entries so far
abbrev pub invariant-loop-i : goal.invariant-loop-i
invariant-loop-i g l =
    let state = g.State.Natural.number in
    record {
      places : take l.i l.positions ≡ map (λ e. e.place) (map entry_at (take l.i l.index));
      lowers_are : map state (take l.i l.lowers) ≡ map (λ e. e.lower) (map entry_at (take l.i l.index));
      ranges_are : map state (take l.i l.ranges) ≡ map (λ e. e.range) (map entry_at (take l.i l.index));
      count : length l.positions ≡ length l.index;
      count_lowers : length l.lowers ≡ length l.index;
      count_ranges : length l.ranges ≡ length l.index;
    }
