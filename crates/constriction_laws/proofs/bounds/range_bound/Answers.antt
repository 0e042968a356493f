use Rattle.constriction_laws.proofs.ProductBounds.{range_words}
use Rattle.constriction_laws.proofs.bounds.range_bound.Goals as goal

pub returns : goal.returns
returns c = λ w s steps z hs two. range_words w s steps z hs two
