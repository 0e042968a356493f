use Rattle.std.proofs.Common.{◌≡◌, ◌≤◌, map, drop}
use Rattle.std.specs.Option.{ForSome}
use Rattle.constriction_commands.proofs.Reading.{read_on, before}
use Rattle.constriction_commands.specs.Lines.{numbers_of}
use Rattle.constriction_commands.proofs.input.parse_numbers.Given as goal

-- the numbers so far and those of the rest are those of the line
abbrev pub invariant-loop-byte : goal.invariant-loop-byte
invariant-loop-byte g l =
    let number = g.N.Number.number in
    let greatest = g.N.Number.GREATEST in
    record {
      small : ForSome l.begun (λ n. n ≤ greatest);
      rest : before (map number l.numbers.items) (read_on greatest l.begun (drop l.byte-index l.line)) ≡ numbers_of greatest l.line;
    }
