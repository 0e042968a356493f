use Rattle.constriction_stack.proofs.BinaryForms.{binary_back, binary_valid}
use Rattle.constriction_laws.proofs.stack.binary.binary_export_of_import.Goals as goal

pub returns-clause-words : goal.returns-clause-words
returns-clause-words c = λ w s words z h. binary_back w s words h

pub returns-clause-valid : goal.returns-clause-valid
returns-clause-valid c = binary_valid
