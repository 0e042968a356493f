use Rattle.std.proofs.Common.{◌≡◌, ◌≤◌, ◌+◌, ◌^◌, length}
use Rattle.constriction_symbol.specs.DecoderTree.{LeadToNodes}
use Rattle.constriction_symbol.proofs.huffman.first_bits.places_of.Given as goal

-- the numbers so far have their places
abbrev pub invariant-loop-number : goal.invariant-loop-number
invariant-loop-number l = record {
  len : length l.places.items ≡ l.number;
  some : 2 ≤ l.number;
  within : l.number ≤ 2 ^ (l.most + 1);
  places : LeadToNodes l.nodes l.places.items;
}
