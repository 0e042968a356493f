use Rattle.std.specs.Prelude.{◌≡◌, ◌+◌, ◌^◌, length}
use Rattle.std.specs.Int.Digits.{digits_of}
use Rattle.constriction_base.proofs.head_words.count_of_words.Given as goal

abbrev pub invariant-loop-rest : goal.invariant-loop-rest
invariant-loop-rest g l =
    l.count + length (digits_of (2 ^ g.Word.Natural.BITS) (g.State.Natural.number l.rest))
    ≡ length (digits_of (2 ^ g.Word.Natural.BITS) (g.State.Natural.number l.fn.head))

abbrev pub decreases-loop-rest : goal.decreases-loop-rest
decreases-loop-rest g l = g.State.Natural.number l.rest
