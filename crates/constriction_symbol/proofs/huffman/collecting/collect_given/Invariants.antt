use Rattle.std.proofs.Common.{map, ◌≡◌}
use Rattle.constriction_symbol.specs.Merging.{as_weight}
use Rattle.constriction_symbol.proofs.huffman.collecting.collect_given.Given as goal

-- the items that came are the weights
abbrev pub invariant-loop-item : goal.invariant-loop-item
invariant-loop-item g l =
    (goal.iterator-loop-item g).can_next l.item-iterator
    × (goal.iterator-loop-item g).is_finite l.item-iterator
    × (l.yielded ≡ map as_weight l.weights.items)
