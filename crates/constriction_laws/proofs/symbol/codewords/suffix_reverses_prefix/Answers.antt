use Rattle.constriction_laws.proofs.of_symbol.bit_coders.Forms.{suffix_turned}
use Rattle.constriction_laws.proofs.symbol.codewords.suffix_reverses_prefix.Goals as goal

pub returns : goal.returns
returns g c = λ codebook symbol prefix suffix. suffix_turned (g.C.Codebook.codeword codebook symbol) prefix suffix
