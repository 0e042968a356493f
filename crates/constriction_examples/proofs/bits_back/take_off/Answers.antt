use Rattle.constriction.specs.stack.Ans.{DecodeCall}
use Rattle.constriction.proofs.Outcomes.{decoded_by}
use Rattle.constriction_examples.proofs.bits_back.take_off.Goals as goal

pub returns : goal.returns
returns c =
    let off = decoded_by (DecodeCall _ _ _ 32 64) (λ _ _ _. ⊥) _ _ _ _ _ c.in-Ok.ensures.step in
    (off.0, off.1, off.2, (off.3.is_next, off.3.popped tt))
