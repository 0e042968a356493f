use Rattle.constriction_laws.proofs.ProductBounds.{net_words}
use Rattle.constriction_laws.proofs.bounds.stack_net_bound.Goals as goal

pub returns : goal.returns
returns c = λ w s acts old new z hs v full i. net_words w s acts old new z hs v full i
