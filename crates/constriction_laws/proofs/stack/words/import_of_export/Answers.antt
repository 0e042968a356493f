use Rattle.constriction_stack.proofs.Importing.{import_export, exported_high}
use Rattle.constriction_laws.proofs.of_stack.Exports.{exported_words}
use Rattle.constriction_laws.proofs.stack.words.import_of_export.Goals as goal

pub returns-clause-state : goal.returns-clause-state
returns-clause-state c = import_export

pub returns-clause-high : goal.returns-clause-high
returns-clause-high c = exported_high

pub returns-clause-words : goal.returns-clause-words
returns-clause-words c = exported_words
