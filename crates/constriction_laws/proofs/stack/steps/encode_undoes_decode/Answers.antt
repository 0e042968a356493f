use Rattle.constriction_laws.specs.stack.Undone.{encode_back, decoded_valid}
use Rattle.constriction_laws.proofs.of_stack.Choosing.{encode_only}
use Rattle.constriction_laws.proofs.stack.steps.encode_undoes_decode.Goals as goal

pub returns-clause-back : goal.returns-clause-back
returns-clause-back g c = λ w s model symbol old new. encode_back w s model symbol old new

pub returns-clause-only : goal.returns-clause-only
returns-clause-only g c = λ w s model symbol old new last. encode_only w s model symbol old new last

pub returns-clause-valid : goal.returns-clause-valid
returns-clause-valid g c = λ w s model symbol old new. decoded_valid w s model symbol old new
