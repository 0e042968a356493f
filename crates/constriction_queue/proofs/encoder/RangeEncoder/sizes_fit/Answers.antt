use Rattle.std.specs.Prelude.{◌≡◌, ◌+◌, ◌*◌, ◌/◌, ◌<◌, ◌^◌, length, map}
use Rattle.std.proofs.Common.{arith, refl}
use Rattle.std.proofs.lemmas.Bool.{false≢true, leb-true, le-leb}
use Rattle.constriction_queue.specs.Encoder.{encoder_of, flushed_of, sealed_by}
use Rattle.constriction_queue.proofs.Seals.{words_of_numbers, count_is, words_within}
use Rattle.constriction_queue.proofs.encoder.RangeEncoder.sizes_fit.Goals as goal
use Rattle.constriction_base.proofs.Sizes.{fit_by_quotient}

pub returns-in_default : goal.returns-in_default
returns-in_default g c =
    let w = g.Word.Natural.BITS in
    let number = g.Word.Natural.number in
    let held = g.Backend.Holds.words c.self.inside.bulk in
    let seal = c.make_seal-seal.result in
    let all = c.make_seal-seal.ensures.words (map number held) (words_of_numbers number _ g.met.Word.Natural.number_law held) in
    let n = length (sealed_by w g.State.Natural.BITS (encoder_of number g.Backend.Holds w (g.State.Natural.number c.self.inside.state.lower) (g.State.Natural.number c.self.inside.state.range) c.self.inside.bulk c.self.inside.situation)) in
    let sum : c.remaining.result + c.flushed_count-owed.result ≡ n =
    omega (arith, c.remaining.ensures, c.flushed_count-owed.ensures, count_is number (flushed_of number seal.held seal.point seal.zero) held _ all) in
    let top : 2 ^ 64 ≡ 18446744073709551616 = refl in
    rw (← c.self.view_is) (
      λ is. absurd (false≢true is),
      λ (fits : w * n < 2 ^ 64). absurd (c.in_default.ensures (omega (arith, sum, fits, words_within w n c.self.invariant.0.some_bits, top))),
    )

pub returns : goal.returns
returns g c =
    let w = g.Word.Natural.BITS in
    let number = g.Word.Natural.number in
    let held = g.Backend.Holds.words c.self.inside.bulk in
    let seal = c.make_seal-seal.result in
    let all = c.make_seal-seal.ensures.words (map number held) (words_of_numbers number _ g.met.Word.Natural.number_law held) in
    let n = length (sealed_by w g.State.Natural.BITS (encoder_of number g.Backend.Holds w (g.State.Natural.number c.self.inside.state.lower) (g.State.Natural.number c.self.inside.state.range) c.self.inside.bulk c.self.inside.situation)) in
    let sum : c.remaining.result + c.flushed_count-owed.result ≡ n =
    omega (arith, c.remaining.ensures, c.flushed_count-owed.ensures, count_is number (flushed_of number seal.held seal.point seal.zero) held _ all) in
    let added = c.in-Some.ensures in
    let words : c.in-Some.words ≡ n = omega (arith, added.1, sum) in
    let by_quotient = fit_by_quotient w n c.self.invariant.0.some_bits in
    rw (← c.self.view_is, words, c.BITS.ensures) (
      λ is. by_quotient.0 (leb-true n (18446744073709551615 / w) is),
      λ fits. le-leb n (18446744073709551615 / w) (by_quotient.1 fits),
    )
