use Rattle.std.proofs.Common.{◌≡◌, ◌+◌, ◌++◌, ℕ, All, length, map}
use Rattle.std.specs.VecDeque.{deque_len}
use Rattle.constriction_symbol.specs.Merging.{as_pair, keys_of}
use Rattle.constriction_symbol.specs.Queues.{AreQueues}
use Rattle.constriction_symbol.proofs.TwoQueues.{IsInTurn}
use Rattle.constriction_symbol.proofs.HuffmanMerging.{Merging}
use Rattle.constriction_symbol.proofs.huffman.merging.merge_all.Given as goal

-- these pairs were merged, and the queues are left
abbrev pub invariant-loop-lesser : goal.invariant-loop-lesser
invariant-loop-lesser g l = record {
  count : l.next ≡ length l.weights + length l.pairs.items;
  queues : AreQueues (length l.weights) (keys_of g.P.Natural.number l.leaves.items) (keys_of g.P.Natural.number l.unions.items);
  turn : (least : ℕ) × All (IsInTurn (length l.weights) l.next least) (keys_of g.P.Natural.number l.leaves.items ++ keys_of g.P.Natural.number l.unions.items);
  merging : Merging (map g.P.Natural.number l.weights) (keys_of g.P.Natural.number l.leaves.items ++ keys_of g.P.Natural.number l.unions.items) (map as_pair l.pairs.items);
}

abbrev pub decreases-loop-lesser : goal.decreases-loop-lesser
decreases-loop-lesser g l = deque_len l.leaves + deque_len l.unions
