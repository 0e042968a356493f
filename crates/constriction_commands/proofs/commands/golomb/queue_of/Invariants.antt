use Rattle.std.proofs.Common.{◌≡◌, flat_map, take}
use Rattle.constriction_symbol.specs.Golomb.{golomb}
use Rattle.constriction_commands.proofs.commands.golomb.queue_of.Given as goal

-- the codewords so far are held
abbrev pub invariant-loop-number : goal.invariant-loop-number
invariant-loop-number l = l.coder.bits ≡ flat_map golomb (take l.number-index l.numbers)
