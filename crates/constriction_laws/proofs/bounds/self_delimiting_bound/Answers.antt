use Rattle.constriction_laws.proofs.ProductBounds.{self_delimiting_words}
use Rattle.constriction_laws.proofs.bounds.self_delimiting_bound.Goals as goal

pub returns : goal.returns
returns c = λ w s steps words z hs are some. self_delimiting_words w s steps words z hs are
