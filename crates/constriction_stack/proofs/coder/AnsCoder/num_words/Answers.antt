use Rattle.std.specs.Prelude.{◌≡◌, ◌+◌, ◌*◌, ◌<◌, ◌^◌, length, map}
use Rattle.std.proofs.Common.{arith, refl}
use Rattle.std.proofs.lemmas.List.{length-map}
use Rattle.constriction_stack.specs.Ans.{AnsState, exported}
use Rattle.constriction_stack.proofs.SizesCounted.{exported_length, words_within}
use Rattle.constriction_stack.proofs.coder.AnsCoder.num_words.Goals as goal

pub overflow_add-result : goal.overflow_add-result
overflow_add-result g c =
    let w = g.Word.Natural.BITS in
    let number = g.Word.Natural.number in
    let held = g.Backend.Holds.words c.self.inside.bulk in
    let state : AnsState = record { head = g.State.Natural.number c.self.inside.state; words = map number held } in
    let sum : c.remaining.result + c.count_of_words.result ≡ length (exported w state) =
    omega (arith, c.remaining.ensures, c.count_of_words.ensures, exported_length w state, length-map held number) in
    let fits : w * length (exported w state) < 2 ^ 64 = rw (← c.self.view_is) at c.requires in
    let top : 2 ^ 64 ≡ 18446744073709551616 = refl in
    omega (arith, sum, fits, words_within w state c.self.invariant.some_bits, top)

pub returns : goal.returns
returns g c =
    let w = g.Word.Natural.BITS in
    let number = g.Word.Natural.number in
    let held = g.Backend.Holds.words c.self.inside.bulk in
    let state : AnsState = record { head = g.State.Natural.number c.self.inside.state; words = map number held } in
    let sum : c.remaining.result + c.count_of_words.result ≡ length (exported w state) =
    omega (arith, c.remaining.ensures, c.count_of_words.ensures, exported_length w state, length-map held number) in
    rw (← c.self.view_is) sum
