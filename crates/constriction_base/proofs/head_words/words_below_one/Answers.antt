use Rattle.std.proofs.Common.{refl}
use Rattle.constriction_base.proofs.Exporting.{some_of}
use Rattle.constriction_base.proofs.OneAbove.{none_of_zero, ones_of_whole, some_bits, whole_of_ones}
use Rattle.constriction_base.proofs.head_words.words_below_one.Goals as goal

pub returns-then-is_nothing-clause-none : goal.returns-then-is_nothing-clause-none
returns-then-is_nothing-clause-none g c = λ m i. none_of_zero g.Word.Natural.BITS m _ (c.if-is_nothing.ensures.0 refl) i

pub returns-then-bits-BITS-ne0-clause-none : goal.returns-then-bits-BITS-ne0-clause-none
returns-then-bits-BITS-ne0-clause-none g c = λ m i.
    let w = g.Word.Natural.BITS in
    c.if-bits-BITS-ne0.true (rw c.BITS.ensures (whole_of_ones w m c.bit_length-bits.result _ c.requires.some_bits c.bit_length-bits.ensures.below c.bit_length-bits.ensures.least i))

pub returns-clause-value : goal.returns-clause-value
returns-clause-value g c =
    let r = g.State.Natural.number c.args.head in
    let below = c.bit_length-bits.ensures.below in
    let some = some_bits c.bit_length-bits.result r (some_of r c.if-is_nothing.ensures.1) below in
    let whole = rw c.BITS.ensures at c.if-bits-BITS-ne0.false in
    rw c.BITS-2.ensures (ones_of_whole g.Word.Natural.BITS c.bit_length-bits.result _ below c.bit_length-bits.ensures.least some whole)
