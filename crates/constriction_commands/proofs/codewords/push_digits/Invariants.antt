use Rattle.std.proofs.Common.{◌≡◌, ◌++◌, take}
use Rattle.constriction_commands.specs.Codewords.{digits}
use Rattle.constriction_commands.proofs.codewords.push_digits.Given as goal

-- the bits so far are written
abbrev pub invariant-loop-bit : goal.invariant-loop-bit
invariant-loop-bit l = l.line.items ≡ l.fn.line.items ++ digits (take l.bit-index l.bits)
