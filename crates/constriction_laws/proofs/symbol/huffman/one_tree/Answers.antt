use Rattle.constriction_symbol.proofs.HuffmanMerge.{merge_one}
use Rattle.constriction_laws.proofs.symbol.huffman.one_tree.Goals as goal

pub returns : goal.returns
returns c = merge_one
