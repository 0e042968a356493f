use Rattle.std.proofs.Common.{ap, reverse}
use Rattle.constriction_base.proofs.Ends.{reverse_empty}
use Rattle.constriction_symbol.proofs.word_bits.WordBits.is_empty.Goals as goal

pub returns : goal.returns
returns g c =
    rw (← c.self.view_is) (λ is. ap reverse (c.is_empty.ensures.0 is), λ none. c.is_empty.ensures.1 (reverse_empty c.self.inside.reversed none))
