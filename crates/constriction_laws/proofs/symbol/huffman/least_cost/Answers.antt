use Rattle.std.proofs.Common.{sym, ◌∙◌}
use Rattle.constriction_laws.proofs.of_symbol.least_cost.Least.{lawful_of_book, least}
use Rattle.constriction_laws.proofs.symbol.huffman.least_cost.Goals as goal

pub returns : goal.returns
returns c = record {
  codewords = least;
  codebook = λ weights codewords others codeword same of count each lawful. least weights codewords others same of count (lawful_of_book codeword others lawful each);
  tree = λ weights book codewords others is same of count lawful. least weights codewords others same (λ s within. sym (is.1 s) ∙ of s within) count lawful;
}
