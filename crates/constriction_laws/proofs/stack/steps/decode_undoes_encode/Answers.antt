use Rattle.constriction_laws.specs.stack.Undone.{decode_back}
use Rattle.constriction_laws.proofs.of_stack.Choosing.{decode_only}
use Rattle.constriction_laws.proofs.stack.steps.decode_undoes_encode.Goals as goal

pub returns-clause-back : goal.returns-clause-back
returns-clause-back g c = λ w s model symbol old new. decode_back w s model symbol old new

pub returns-clause-only : goal.returns-clause-only
returns-clause-only g c = λ w s model symbol again old new last. decode_only w s model symbol again old new last
