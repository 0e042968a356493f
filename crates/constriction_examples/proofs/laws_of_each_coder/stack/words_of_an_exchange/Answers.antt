use Rattle.std.proofs.Common.{[], ◌∷◌, arith, refl}
use Rattle.constriction.specs.Bounds.{Encode, Decode}
use Rattle.constriction_examples.proofs.laws_of_each_coder.stack.words_of_an_exchange.Goals as goal

pub returns : goal.returns
returns c = λ taken put old new one other valid high acts. c.stack_net_bound.ensures 32 64 (Decode taken ∷ Encode put ∷ []) old new
    (record { some_bits = omega arith; two_words = omega arith; whole = refl }) (one, (other, tt)) valid high acts
