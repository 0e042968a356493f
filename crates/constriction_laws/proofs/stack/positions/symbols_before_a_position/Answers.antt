use Rattle.std.proofs.Common.{sym, subst}
use Rattle.std.specs.Prelude.{reverse}
use Rattle.constriction_stack.specs.Ans.{AnsState}
use Rattle.constriction_stack.proofs.Importing.{import_export}
use Rattle.constriction_stack.proofs.PositionsKept.{sought_back}
use Rattle.constriction_stack.specs.Symbols.{DecodesAll}
use Rattle.constriction_laws.proofs.of_stack.ComingBack.{encoded_all_valid}
use Rattle.constriction_laws.proofs.of_stack.Seeking.{encodes_grow}
use Rattle.constriction_laws.proofs.stack.positions.symbols_before_a_position.Goals as goal

pub returns-clause-decoded : goal.returns-clause-decoded
returns-clause-decoded g c = λ w s before since start middle last z ms h k.
    let same = sought_back middle last (encodes_grow w s z since middle last ms k) in
    subst (λ (x : AnsState). DecodesAll w s (reverse before) x start) (sym same) (c.decodes_undo_encodes.ensures.back w s before start middle z h)

pub returns-clause-only : goal.returns-clause-only
returns-clause-only g c = λ w s before since others start middle last end z bs ms h k d e.
    let same = sought_back middle last (encodes_grow w s z since middle last ms k) in
    c.decodes_undo_encodes.ensures.only w s before others start middle end z bs h
    (subst (λ (x : AnsState). DecodesAll w s others x end) same d) e

pub returns-clause-imported : goal.returns-clause-imported
returns-clause-imported g c = λ w s before since start middle last z v h k.
    let valid = encoded_all_valid w s before start middle v h in
    import_export w s last z (encoded_all_valid w s since middle last valid k)
