use Rattle.std.proofs.Common.{◌≡◌, map, take}
use Rattle.std.specs.List.{join_with_byte}
use Rattle.constriction_symbol.specs.Golomb.{golomb}
use Rattle.constriction_commands.specs.Codewords.{digits}
use Rattle.constriction_commands.proofs.commands.golomb.line_of_codewords.Given as goal

-- the codewords so far are written, with a space between each two
abbrev pub invariant-loop-place : goal.invariant-loop-place
invariant-loop-place l = l.line.items ≡ join_with_byte 32 (map (λ n. digits (golomb n)) (take l.place l.numbers))
