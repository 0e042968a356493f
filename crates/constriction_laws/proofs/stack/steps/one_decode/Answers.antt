use Rattle.constriction_laws.proofs.of_stack.Choosing.{decode_exists, decode_unique}
use Rattle.constriction_laws.proofs.stack.steps.one_decode.Goals as goal

pub returns-clause-exists : goal.returns-clause-exists
returns-clause-exists g c = λ w s model old. decode_exists w s model old

pub returns-clause-unique : goal.returns-clause-unique
returns-clause-unique g c = λ w s model symbol other old new last. decode_unique w s model symbol other old new last
