use Rattle.constriction_commands.proofs.OwnNumbers.{own_numbers}
use Rattle.constriction_commands.proofs.output.line_of_words.Goals as goal

pub returns : goal.returns
returns c = rw (own_numbers c.args.words.now c.type_inv.words) c.line_of_numbers.ensures
