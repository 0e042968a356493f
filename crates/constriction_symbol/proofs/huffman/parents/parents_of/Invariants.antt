use Rattle.std.proofs.Common.{◌≡◌, ◌+◌, ◌*◌, length, map, take}
use Rattle.constriction_symbol.specs.Huffman.{IsParents}
use Rattle.constriction_symbol.specs.Merging.{as_pair}
use Rattle.constriction_symbol.proofs.huffman.parents.parents_of.Given as goal

-- the parents by these pairs
abbrev pub invariant-loop-step : goal.invariant-loop-step
invariant-loop-step l = record {
  len : length l.nodes.items ≡ 2 * length l.pairs + 1;
  made : IsParents (length l.pairs + 1) (map as_pair (take l.step l.pairs)) l.nodes.items;
}
