use Rattle.std.proofs.Common.{[], ◌∷◌, map, append_assoc}
use Rattle.std.specs.Prelude.{decimal}
use Rattle.std.specs.List.{join_with_byte}
use Rattle.constriction_commands.proofs.OwnNumbers.{own_numbers}
use Rattle.constriction_commands.proofs.output.push_words.Goals as goal

pub returns : goal.returns
returns c =
    let joined = append_assoc c.args.out.now.items (join_with_byte 32 (map decimal c.args.words.now)) (10 ∷ []) in
    rw (own_numbers c.args.words.now c.type_inv.words) (rw joined at c.push_numbers.ensures)
