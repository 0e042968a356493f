use Rattle.std.proofs.Common.{◌≤◌, length, take}
use Rattle.std.specs.Io.KnownBytes.{Appends}
use Rattle.constriction_commands.proofs.output.write_bytes.Given as goal

-- so many of the bytes were written
abbrev pub invariant-loop : goal.invariant-loop
invariant-loop g l = record {
  within : l.count ≤ length l.bytes;
  written : Appends (g.O.Write.contents l.fn.output) (g.O.Write.contents l.output) (take l.count l.bytes);
}
