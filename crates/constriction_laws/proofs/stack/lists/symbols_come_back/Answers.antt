use Rattle.std.proofs.Common.{subst}
use Rattle.constriction_stack.specs.Ans.{AnsState, empty}
use Rattle.constriction_stack.proofs.Importing.{import_export, exported_high}
use Rattle.constriction_stack.specs.Symbols.{DecodesAll}
use Rattle.constriction_laws.proofs.of_stack.ComingBack.{encodes_exist, encoded_all_valid, empty_valid}
use Rattle.constriction_laws.proofs.stack.lists.symbols_come_back.Goals as goal

pub returns-clause-encoded : goal.returns-clause-encoded
returns-clause-encoded g c = λ w s items z ms ks.
    let all = encodes_exist w s items empty z ms ks (empty_valid w s) in
    (all.0, all.1)

pub returns-clause-exported : goal.returns-clause-exported
returns-clause-exported g c = λ w s items state z h.
    exported_high w s state z (encoded_all_valid w s items empty state (empty_valid w s) h)

pub returns-clause-decoded : goal.returns-clause-decoded
returns-clause-decoded g c = λ w s items state z h.
    let same = import_export w s state z (encoded_all_valid w s items empty state (empty_valid w s) h) in
    rw same (c.decodes_undo_encodes.ensures.back w s items empty state z h)

pub returns-clause-only : goal.returns-clause-only
returns-clause-only g c = λ w s items others state last z ms h k e.
    let same = import_export w s state z (encoded_all_valid w s items empty state (empty_valid w s) h) in
    c.decodes_undo_encodes.ensures.only w s items others empty state last z ms h
    (subst (λ (x : AnsState). DecodesAll w s others x last) same k) e
