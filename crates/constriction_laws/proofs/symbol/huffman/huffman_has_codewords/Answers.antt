use Rattle.constriction_laws.proofs.of_symbol.least_cost.Least.{own_codewords}
use Rattle.constriction_laws.proofs.symbol.huffman.huffman_has_codewords.Goals as goal

pub returns : goal.returns
returns c = own_codewords
