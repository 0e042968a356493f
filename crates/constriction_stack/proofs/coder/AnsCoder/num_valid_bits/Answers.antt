use Rattle.std.specs.Prelude.{◌≡◌, ◌+◌, ◌-◌, ◌*◌, ◌≤◌, ◌<◌, ◌^◌, length, map}
use Rattle.std.proofs.Common.{arith, refl}
use Rattle.std.proofs.lemmas.List.{length-map}
use Rattle.constriction_stack.specs.Ans.{AnsState, exported}
use Rattle.constriction_stack.specs.Sizes.{bit_count}
use Rattle.constriction_stack.proofs.SizesCounted.{bit_count_is, valid_within}
use Rattle.constriction_stack.proofs.coder.AnsCoder.num_valid_bits.Goals as goal

pub overflow_add-result : goal.overflow_add-result
overflow_add-result g c =
    let w = g.Word.Natural.BITS in
    let number = g.Word.Natural.number in
    let held = g.Backend.Holds.words c.self.inside.bulk in
    let head = g.State.Natural.number c.self.inside.state in
    let state : AnsState = record { head = head; words = map number held } in
    let bits = bit_count_is c.bit_length.result head c.bit_length.ensures.below c.bit_length.ensures.least in
    let value : c.BITS.result * c.remaining.result + c.saturating_sub-head.result ≡ w * length (map number held) + (bit_count head - 1) =
    rw (c.BITS.ensures, c.remaining.ensures, c.saturating_sub-head.ensures, bits, length-map held number) refl in
    let within : w * length (map number held) + (bit_count head - 1) ≤ w * length (exported w state) = valid_within w state c.self.invariant.some_bits in
    let fits : w * length (exported w state) < 2 ^ 64 = rw (← c.self.view_is) at c.requires in
    let top : 2 ^ 64 ≡ 18446744073709551616 = refl in
    omega (arith, value, within, fits, top)

pub returns : goal.returns
returns g c =
    let w = g.Word.Natural.BITS in
    let number = g.Word.Natural.number in
    let held = g.Backend.Holds.words c.self.inside.bulk in
    let head = g.State.Natural.number c.self.inside.state in
    let bits = bit_count_is c.bit_length.result head c.bit_length.ensures.below c.bit_length.ensures.least in
    let value : c.BITS.result * c.remaining.result + c.saturating_sub-head.result ≡ w * length (map number held) + (bit_count head - 1) =
    rw (c.BITS.ensures, c.remaining.ensures, c.saturating_sub-head.ensures, bits, length-map held number) refl in
    rw (← c.self.view_is) value
