use Rattle.std.proofs.Common.{◌≡◌, length, map}
use Rattle.constriction_commands.specs.Lines.{number_lists_of}
use Rattle.constriction_commands.proofs.Reading.{before}
use Rattle.constriction_commands.proofs.input.parse_lines.Given as goal

-- the lists so far and those of the rest are those of the text
abbrev pub invariant-loop-rest : goal.invariant-loop-rest
invariant-loop-rest g l =
    let greatest = g.N.Number.GREATEST in
    before (map (λ list. map g.N.Number.number list.items) l.lists.items) (number_lists_of greatest l.rest) ≡ number_lists_of greatest l.text

abbrev pub decreases-loop-rest : goal.decreases-loop-rest
decreases-loop-rest g l = length l.rest
