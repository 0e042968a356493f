use Rattle.constriction_symbol.specs.GolombLaws.{golomb_prefix_free}
use Rattle.constriction_laws.proofs.symbol.golomb.golomb_is_prefix_free.Goals as goal

pub returns : goal.returns
returns c = golomb_prefix_free
