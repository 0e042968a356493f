use Rattle.constriction_models.specs.Floats.{exponent}
use Rattle.constriction_models.proofs.floats.read_exponent.Goals as goal

pub returns : goal.returns
unfolding exponent
returns c = c.max.ensures
