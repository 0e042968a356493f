use Rattle.std.proofs.Common.{◌≡◌, ℕ, sym, subst}
use Rattle.constriction_stack.specs.Ans.{AnsState}
use Rattle.constriction_base.specs.Writing.{IsOneAbove}
use Rattle.constriction_stack.specs.Binary.{binary_state, binary_words}
use Rattle.constriction_stack.proofs.BinaryForms.{binary_back, binary_valid}
use Rattle.constriction_laws.proofs.stack.binary.binary_words_come_back.Goals as goal

pub returns-clause-state : goal.returns-clause-state
returns-clause-state g c = λ w s words items state last z ws ms h k.
    c.encodes_undo_decodes.ensures.only w s items (binary_state w s words) state last z ms (binary_valid w s words z ws) h k

pub returns-clause-words : goal.returns-clause-words
returns-clause-words g c = λ w s words items state last z ws ms h k.
    let same = c.encodes_undo_decodes.ensures.only w s items (binary_state w s words) state last z ms (binary_valid w s words z ws) h k in
    subst (λ (x : AnsState). (m : ℕ) × IsOneAbove w m x.head × (binary_words w m x ≡ words)) (sym same) (binary_back w s words ws)
