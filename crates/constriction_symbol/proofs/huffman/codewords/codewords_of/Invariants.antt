use Rattle.std.proofs.Common.{ℕ, ◌≡◌, ◌<◌, ◌≤◌, ◌⊎◌, get_or, length}
use Rattle.constriction_symbol.specs.EncoderTree.{HasBelowOne}
use Rattle.constriction_symbol.specs.Huffman.{climbed}
use Rattle.constriction_symbol.proofs.huffman.codewords.codewords_of.Given as goal

-- the nodes from here on have theirs
abbrev pub invariant-loop-index : goal.invariant-loop-index
invariant-loop-index l = record {
  len : length l.codewords.items ≡ length l.nodes;
  within : l.index ≤ length l.nodes;
  unset : (i : ℕ) → i < l.index → get_or l.codewords.items i 0 ≡ 1;
  each : (i : ℕ) → l.index ≤ i → i < length l.nodes → (get_or l.codewords.items i 0 ≡ 0) ⊎ HasBelowOne (climbed (length l.nodes) l.nodes i) (get_or l.codewords.items i 0);
}

abbrev pub decreases-loop-index : goal.decreases-loop-index
decreases-loop-index l = l.index
