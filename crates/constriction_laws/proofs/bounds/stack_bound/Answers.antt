use Rattle.constriction_laws.proofs.ProductBounds.{ans_words}
use Rattle.constriction_laws.proofs.bounds.stack_bound.Goals as goal

pub returns : goal.returns
returns c = λ w s steps state z hs i. ans_words w s steps state z hs i
