use Rattle.constriction_stack.proofs.BinaryForms.{binary_import}
use Rattle.constriction_laws.proofs.of_stack.Exports.{binary_words_fit}
use Rattle.constriction_laws.proofs.stack.binary.binary_import_of_export.Goals as goal

pub returns-clause-state : goal.returns-clause-state
returns-clause-state c = binary_import

pub returns-clause-words : goal.returns-clause-words
returns-clause-words c = λ w s m state z v. binary_words_fit w s m state v
