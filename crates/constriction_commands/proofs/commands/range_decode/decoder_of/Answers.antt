use Rattle.constriction_commands.proofs.OwnNumbers.{own_numbers}
use Rattle.constriction_commands.proofs.commands.range_decode.decoder_of.Goals as goal

pub returns : goal.returns
returns c = rw (own_numbers c.args.words.now c.type_inv.words) at (c.in-Ok.ensures.ok tt)
