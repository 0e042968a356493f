use Rattle.constriction.specs.stack.Ans.{EncodeCall}
use Rattle.constriction.proofs.Outcomes.{ok_by}
use Rattle.constriction_examples.proofs.bits_back.put_on.Goals as goal

pub returns : goal.returns
returns c = λ valid.
    let on = ok_by (EncodeCall _ _ _ 32 64) _ _ _ _ _ c.in_ok-encode_symbol.ensures.step in
    (on.0, on.1, on.2, on.3.pushed valid)
