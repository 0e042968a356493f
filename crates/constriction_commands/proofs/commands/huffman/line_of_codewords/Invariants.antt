use Rattle.std.proofs.Common.{◌≡◌, map}
use Rattle.std.specs.List.{join_with_byte}
use Rattle.constriction_symbol.specs.Huffman.{path, symbols_from}
use Rattle.constriction_commands.specs.commands.Huffman.{codeword_text}
use Rattle.constriction_commands.proofs.commands.huffman.line_of_codewords.Given as goal

-- the codewords so far are written, with a space between each two
abbrev pub invariant-loop-symbol : goal.invariant-loop-symbol
invariant-loop-symbol l = l.line.items ≡ join_with_byte 32 (map (λ symbol. codeword_text (path l.tree symbol)) (symbols_from 0 l.symbol))
