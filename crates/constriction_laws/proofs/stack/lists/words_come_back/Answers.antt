use Rattle.std.proofs.Common.{◌∙◌, ap, pow_pos}
use Rattle.constriction_stack.specs.Ans.{AnsState, filled, exported}
use Rattle.constriction_stack.proofs.Importing.{export_import, valid_filled}
use Rattle.constriction_laws.proofs.stack.lists.words_come_back.Goals as goal

pub returns : goal.returns
returns g c = λ w s words items state last z ws high ms h k.
    let same = c.encodes_undo_decodes.ensures.only w s items (filled w s 0 words) state last z ms (valid_filled w s 0 words z (pow_pos s) ws) h k in
    ap (λ (x : AnsState). exported w x) same ∙ export_import w s words z ws high
