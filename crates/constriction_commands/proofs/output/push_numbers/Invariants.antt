use Rattle.std.proofs.Common.{◌≡◌, ◌++◌, map, take}
use Rattle.std.specs.List.{join_with_byte}
use Rattle.constriction_commands.proofs.output.push_numbers.Given as goal

-- the numbers so far are written, with a space between each two
abbrev pub invariant-loop-place : goal.invariant-loop-place
invariant-loop-place g l = l.out.items ≡ l.fn.out.items ++ join_with_byte 32 (map g.I.Integer.text (take l.place l.numbers))
