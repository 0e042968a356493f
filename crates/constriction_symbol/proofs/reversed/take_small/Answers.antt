use Rattle.constriction_symbol.proofs.ReversedCodewords.{taken_off}
use Rattle.constriction_symbol.proofs.reversed.take_small.Goals as goal

pub returns : goal.returns
returns c = taken_off _ _ _ c.in-Ok.bit (c.in-Ok.ensures.1 tt)
