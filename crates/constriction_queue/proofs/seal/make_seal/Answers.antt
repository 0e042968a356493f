use Rattle.std.proofs.Common.{◌-◌, ◌∙◌, refl, arith, append_assoc, mod-lt, pow_pos}
use Rattle.std.proofs.lemmas.Bool.{false≢true}
use Rattle.constriction_queue.proofs.Seals.{sealed_start, ones_below, can_carry, held_start, greatest_range, lesser_range}
use Rattle.constriction_queue.proofs.SelfSealed.{sealed_by_gap, self_delimited_by_gap, self_delimited_start, zeros_by_gap, some_wanted}
use Rattle.constriction_queue.proofs.seal.make_seal.Goals as goal

pub returns-then-not-is_below-clause-words : goal.returns-then-not-is_below-clause-words
returns-then-not-is_below-clause-words g c words all =
    let law = g.met.State.Natural.number_law c.args.state.range in
    let test = rw c.length-range.ensures.value at c.if-not-is_below.ensures in
    let whole = greatest_range _ _ _ law c.greatest.ensures (λ less. false≢true (test.1 less)) in
    let start = held_start _ _ _ c.args.situation _ _ c.requires.fit whole in
    rw start.0 (sealed_start _ _ _ _ words all start.1 whole)

pub returns-then-not-is_below-clause-followed : goal.returns-then-not-is_below-clause-followed
returns-then-not-is_below-clause-followed g c words all =
    let law = g.met.State.Natural.number_law c.args.state.range in
    let test = rw c.length-range.ensures.value at c.if-not-is_below.ensures in
    let whole = greatest_range _ _ _ law c.greatest.ensures (λ less. false≢true (test.1 less)) in
    let start = held_start _ _ _ c.args.situation _ _ c.requires.fit whole in
    rw start.0 (self_delimited_start _ _ _ _ words all start.1 whole)

pub minus-requires : goal.minus-requires
minus-requires g c =
    let ones = rw c.BITS-3.ensures at c.shift_right-ones.ensures ∙ ones_below _ _ _ (omega arith) c.greatest-2.ensures in
    let rest = rw (c.BITS.ensures, c.BITS-2.ensures) at c.low_bits.ensures in
    let small = mod-lt (g.State.Natural.number c.wrapping_plus-point.result) (pow_pos (g.State.Natural.BITS - g.Word.Natural.BITS)) in
    omega (arith, ones, rest, small)

pub minus-gap-requires : goal.minus-gap-requires
minus-gap-requires g c =
    let ones = rw c.BITS-3.ensures at c.shift_right-ones.ensures ∙ ones_below _ _ _ (omega arith) c.greatest-2.ensures in
    omega (arith, ones, c.minus.ensures, c.length-range.ensures.wide)

pub zeros_for-zeros-requires-clause-some : goal.zeros_for-zeros-requires-clause-some
zeros_for-zeros-requires-clause-some g c =
    let ones = rw c.BITS-3.ensures at c.shift_right-ones.ensures ∙ ones_below _ _ _ (omega arith) c.greatest-2.ensures in
    let some = pow_pos (g.State.Natural.BITS - g.Word.Natural.BITS) in
    omega (arith, ones, c.minus.ensures, c.minus-gap.ensures, c.length-range.ensures.wide, some)

pub release_pending-requires-clause-carry : goal.release_pending-requires-clause-carry
release_pending-requires-clause-carry g c =
    let ones = rw c.BITS-3.ensures at c.shift_right-ones.ensures ∙ ones_below _ _ _ (omega arith) c.greatest-2.ensures in
    let point = rw (c.lower-lower.ensures, ones) at c.wrapping_plus-point.ensures in
    can_carry _ _ _ c.args.situation _ _ _ _ c.requires.fit c.args.state.wide point (rw c.lower-lower.ensures at c.is_below-2.ensures)

pub returns-clause-words : goal.returns-clause-words
returns-clause-words g c words all =
    let ones = rw c.BITS-3.ensures at c.shift_right-ones.ensures ∙ ones_below _ _ _ (omega arith) c.greatest-2.ensures in
    let point = rw (c.lower-lower.ensures, ones) at c.wrapping_plus-point.ensures in
    let top = rw (c.shift_right.ensures, c.BITS.ensures, c.BITS-2.ensures) at c.narrow-top.ensures in
    let rest = rw (c.BITS.ensures, c.BITS-2.ensures) at c.low_bits.ensures in
    let gap = rw (c.minus.ensures, ones, rest, c.length-range.ensures.value) at c.minus-gap.ensures in
    let test = rw c.length-range.ensures.value at (c.if-not-is_below.ensures.0 refl) in
    let less = lesser_range _ _ _ c.greatest.ensures test in
    let zeros = c.zeros_for-zeros.result in
    rw (append_assoc, c.zero_if.ensures)
    (sealed_by_gap g.Word.Natural.BITS g.State.Natural.BITS _ _ _ _ _ c.is_below-2.result _ _ (omega arith) (g.met.State.Natural.number_law _) c.args.state.wide (c.release_pending.ensures.words words all) point (rw c.lower-lower.ensures at c.is_below-2.ensures) top gap
    zeros _ less (some_wanted zeros) (zeros_by_gap _ _ zeros _ c.zeros_for-zeros.ensures.enough c.zeros_for-zeros.ensures.least))

pub returns-clause-followed : goal.returns-clause-followed
returns-clause-followed g c words all =
    let ones = rw c.BITS-3.ensures at c.shift_right-ones.ensures ∙ ones_below _ _ _ (omega arith) c.greatest-2.ensures in
    let point = rw (c.lower-lower.ensures, ones) at c.wrapping_plus-point.ensures in
    let top = rw (c.shift_right.ensures, c.BITS.ensures, c.BITS-2.ensures) at c.narrow-top.ensures in
    let rest = rw (c.BITS.ensures, c.BITS-2.ensures) at c.low_bits.ensures in
    let gap = rw (c.minus.ensures, ones, rest, c.length-range.ensures.value) at c.minus-gap.ensures in
    let test = rw c.length-range.ensures.value at (c.if-not-is_below.ensures.0 refl) in
    let less = lesser_range _ _ _ c.greatest.ensures test in
    let zeros = c.zeros_for-zeros.result in
    rw (append_assoc, append_assoc, append_assoc, c.zero_if.ensures, c.other_zeros.ensures)
    (self_delimited_by_gap g.Word.Natural.BITS g.State.Natural.BITS _ _ _ _ _ c.is_below-2.result _ _ (omega arith) (g.met.State.Natural.number_law _) c.args.state.wide (c.release_pending.ensures.words words all) point (rw c.lower-lower.ensures at c.is_below-2.ensures) top gap
    zeros _ less (some_wanted zeros) c.zeros_for-zeros.ensures.few c.zeros_for-zeros.ensures.enough c.zeros_for-zeros.ensures.least)
