use Rattle.constriction_laws.proofs.of_stack.ComingBack.{encodes_exist, encodes_unique}
use Rattle.constriction_laws.proofs.stack.lists.one_list_of_encodes.Goals as goal

pub returns-clause-exists : goal.returns-clause-exists
returns-clause-exists g c = λ w s items old. encodes_exist w s items old

pub returns-clause-unique : goal.returns-clause-unique
returns-clause-unique g c = λ w s items old new other. encodes_unique w s items old new other
