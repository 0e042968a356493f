use Rattle.constriction_symbol.proofs.TreeCodewords.{known_symbol, unknown_symbol}
use Rattle.constriction_laws.proofs.symbol.huffman.huffman_knows_its_symbols.Goals as goal

pub returns : goal.returns
returns c = record { known = known_symbol; impossible = unknown_symbol }
