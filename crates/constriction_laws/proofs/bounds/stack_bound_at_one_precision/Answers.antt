use Rattle.constriction_laws.proofs.ProductBounds.{ans_words}
use Rattle.constriction_laws.proofs.StepsOfSymbols.{shares_at, wholes_at}
use Rattle.constriction_laws.proofs.bounds.stack_bound_at_one_precision.Goals as goal

pub returns : goal.returns
returns c = λ w s precision steps state z hs all i.
    rw (shares_at w s precision steps all, wholes_at w s precision steps all) at (ans_words w s steps state z hs i)
