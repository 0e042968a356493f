use Rattle.std.proofs.Common.{arith}
use Rattle.constriction_base.proofs.Exporting.{some_of, shr_smaller, one_digit_less, digits_within}
use Rattle.constriction_base.proofs.head_words.count_of_words.Goals as goal

pub overflow_add-count : goal.overflow_add-count
overflow_add-count g c =
    let some = some_of _ c.loop-rest-test.ensures.1 in
    let w = g.Word.Natural.BITS in
    let within = digits_within w g.State.Natural.BITS (g.State.Natural.number c.args.head) c.requires.some_bits (g.met.State.Natural.number_law _) in
    omega (arith, c.loop-rest.invariant, within, g.met.State.Natural.bits_law, one_digit_less w (g.State.Natural.number c.loop-rest.rest) c.requires.some_bits some)

pub loop-rest-smaller : goal.loop-rest-smaller
loop-rest-smaller g c =
    let some = some_of _ c.loop-rest-test.ensures.1 in
    rw (c.shift_right-rest.ensures, c.BITS.ensures) (shr_smaller g.Word.Natural.BITS (g.State.Natural.number c.loop-rest.rest) c.requires.some_bits some)

pub loop-rest-preserved : goal.loop-rest-preserved
loop-rest-preserved g c =
    let some = some_of _ c.loop-rest-test.ensures.1 in
    rw (c.shift_right-rest.ensures, c.BITS.ensures)
    (omega (arith, c.loop-rest.invariant, one_digit_less g.Word.Natural.BITS (g.State.Natural.number c.loop-rest.rest) c.requires.some_bits some))
