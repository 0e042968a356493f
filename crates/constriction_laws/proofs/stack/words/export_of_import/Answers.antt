use Rattle.std.proofs.Common.{pow_pos}
use Rattle.constriction_stack.proofs.Importing.{export_import, valid_filled}
use Rattle.constriction_laws.proofs.stack.words.export_of_import.Goals as goal

pub returns-clause-words : goal.returns-clause-words
returns-clause-words c = export_import

pub returns-clause-valid : goal.returns-clause-valid
returns-clause-valid c = λ w s words z h. valid_filled w s 0 words z (pow_pos s) h
