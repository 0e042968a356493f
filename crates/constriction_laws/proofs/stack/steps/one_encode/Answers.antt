use Rattle.constriction_laws.proofs.of_stack.Choosing.{encode_exists, encode_unique}
use Rattle.constriction_laws.proofs.stack.steps.one_encode.Goals as goal

pub returns-clause-exists : goal.returns-clause-exists
returns-clause-exists g c = λ w s model symbol old. encode_exists w s model symbol old

pub returns-clause-unique : goal.returns-clause-unique
returns-clause-unique g c = λ w s model symbol old new other. encode_unique w s model symbol old new other
