use Rattle.constriction_queue.proofs.SelfSealed.{zeros_enough, zeros_few, zeros_least, zeros_most}
use Rattle.constriction_queue.proofs.seal.zeros_for.Goals as goal

pub returns-clause-few : goal.returns-clause-few
returns-clause-few g c =
    rw (c.BITS.ensures, c.BITS-2.ensures) (zeros_few g.Word.Natural.BITS g.State.Natural.BITS c.bit_length.result _ c.requires.sizes c.requires.some c.bit_length.ensures.below c.bit_length.ensures.within)

pub returns-clause-enough : goal.returns-clause-enough
returns-clause-enough g c =
    rw (c.BITS.ensures, c.BITS-2.ensures) (zeros_enough g.Word.Natural.BITS g.State.Natural.BITS c.bit_length.result _ c.requires.sizes c.requires.some c.bit_length.ensures.below c.bit_length.ensures.least c.bit_length.ensures.within)

pub returns-clause-least : goal.returns-clause-least
returns-clause-least g c = λ k.
    rw (c.BITS.ensures, c.BITS-2.ensures) (λ less. zeros_least g.Word.Natural.BITS g.State.Natural.BITS c.bit_length.result _ k c.bit_length.ensures.below c.bit_length.ensures.within less)

pub returns-clause-most : goal.returns-clause-most
returns-clause-most g c =
    rw (c.BITS.ensures, c.BITS-2.ensures) (zeros_most g.Word.Natural.BITS g.State.Natural.BITS c.bit_length.result _ g.met.Word.Natural.bits_law.0 g.met.State.Natural.bits_law.1 c.requires.some c.bit_length.ensures.below)
