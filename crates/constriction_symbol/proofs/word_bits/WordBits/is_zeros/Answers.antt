use Rattle.std.proofs.Common.{length}
use Rattle.constriction_symbol.proofs.Coding.{zeros_of}
use Rattle.constriction_symbol.proofs.WordLemmas.{zeros_both}
use Rattle.constriction_symbol.proofs.word_bits.WordBits.is_zeros.Goals as goal

pub returns : goal.returns
returns g c =
    let all = c.self.inside.reversed in
    let zeros = rw c.word.ensures.bits at (zeros_of (length all) (g.Word.Natural.number c.word.result) c.word.ensures.small) in
    let both = zeros_both all in
    rw (← c.self.view_is) (λ is. both.0 (zeros.1 (c.is_nothing.ensures.0 is)), λ is. c.is_nothing.ensures.1 (zeros.0 (both.1 is)))
