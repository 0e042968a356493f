use Rattle.std.specs.Prelude.{◌≡◌, ◌+◌, ◌*◌, ◌/◌, ◌<◌, ◌^◌, length, map}
use Rattle.std.proofs.Common.{arith, refl}
use Rattle.std.proofs.lemmas.Bool.{false≢true, leb-true, le-leb}
use Rattle.std.proofs.lemmas.List.{length-map}
use Rattle.constriction_stack.specs.Ans.{AnsState, exported}
use Rattle.constriction_stack.proofs.SizesCounted.{exported_length, words_within}
use Rattle.constriction_base.proofs.Sizes.{fit_by_quotient}
use Rattle.constriction_stack.proofs.coder.AnsCoder.sizes_fit.Goals as goal

pub returns-in_default : goal.returns-in_default
returns-in_default g c =
    let w = g.Word.Natural.BITS in
    let number = g.Word.Natural.number in
    let held = g.Backend.Holds.words c.self.inside.bulk in
    let state : AnsState = record { head = g.State.Natural.number c.self.inside.state; words = map number held } in
    let sum : c.remaining.result + c.count_of_words-head.result ≡ length (exported w state) =
    omega (arith, c.remaining.ensures, c.count_of_words-head.ensures, exported_length w state, length-map held number) in
    let top : 2 ^ 64 ≡ 18446744073709551616 = refl in
    rw (← c.self.view_is) (
      λ is. absurd (false≢true is),
      λ (fits : w * length (exported w state) < 2 ^ 64). absurd (c.in_default.ensures (omega (arith, sum, fits, words_within w state c.self.invariant.some_bits, top))),
    )

pub returns : goal.returns
returns g c =
    let w = g.Word.Natural.BITS in
    let number = g.Word.Natural.number in
    let held = g.Backend.Holds.words c.self.inside.bulk in
    let state : AnsState = record { head = g.State.Natural.number c.self.inside.state; words = map number held } in
    let n = length (exported w state) in
    let sum : c.remaining.result + c.count_of_words-head.result ≡ n =
    omega (arith, c.remaining.ensures, c.count_of_words-head.ensures, exported_length w state, length-map held number) in
    let added = c.in-Some.ensures in
    let words : c.in-Some.words ≡ n = omega (arith, added.1, sum) in
    let by_quotient = fit_by_quotient w n c.self.invariant.some_bits in
    rw (← c.self.view_is, words, c.BITS.ensures) (
      λ is. by_quotient.0 (leb-true n (18446744073709551615 / w) is),
      λ fits. le-leb n (18446744073709551615 / w) (by_quotient.1 fits),
    )
