use Rattle.constriction_symbol.proofs.HuffmanMerge.{huffman_prefix_free}
use Rattle.constriction_laws.proofs.symbol.huffman.huffman_is_prefix_free.Goals as goal

pub returns : goal.returns
returns c = huffman_prefix_free
