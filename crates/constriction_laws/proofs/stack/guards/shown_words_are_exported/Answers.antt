use Rattle.std.proofs.Common.{◌∙◌, ap}
use Rattle.constriction_stack.specs.Ans.{AnsState, filled}
use Rattle.constriction_stack.specs.Binary.{binary_state}
use Rattle.constriction_stack.proofs.Importing.{import_export}
use Rattle.constriction_stack.proofs.BinaryForms.{binary_import}
use Rattle.constriction_laws.proofs.stack.guards.shown_words_are_exported.Goals as goal

pub returns-clause-compressed : goal.returns-clause-compressed
returns-clause-compressed c = λ w s state shown z v is. ap (λ (x : AnsState). filled w s 0 x.words) is ∙ import_export w s state z v

pub returns-clause-binary : goal.returns-clause-binary
returns-clause-binary c = λ w s m state shown z v b is. ap (λ (x : AnsState). binary_state w s x.words) is ∙ binary_import w s m state z v b
