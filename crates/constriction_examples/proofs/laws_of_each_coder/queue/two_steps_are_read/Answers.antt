use Rattle.std.proofs.Common.{[], ◌∷◌, arith, refl}
use Rattle.constriction_examples.proofs.laws_of_each_coder.queue.two_steps_are_read.Goals as goal

pub returns : goal.returns
returns c = λ first second one other. c.sealed_words_are_read.ensures.alone 32 64 (first ∷ second ∷ [])
    (record { some_bits = omega arith; two_words = omega arith; whole = refl }) (one, (other, tt))
