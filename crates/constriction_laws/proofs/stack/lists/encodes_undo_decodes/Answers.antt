use Rattle.constriction_laws.specs.stack.Undone.{Sizes}
use Rattle.constriction_laws.proofs.of_stack.ComingBack.{encodes_only}
use Rattle.constriction_laws.proofs.stack.lists.encodes_undo_decodes.Goals as goal

pub returns-clause-back : goal.returns-clause-back
returns-clause-back g c = λ w s items old new z ms v h.
    let sizes : Sizes = record { w = w; s = s; are = z } in
    c.lists_undo.ensures.undone sizes items old new ms v h

pub returns-clause-only : goal.returns-clause-only
returns-clause-only g c = λ w s items old new last z ms v h k.
    let sizes : Sizes = record { w = w; s = s; are = z } in
    encodes_only w s items old new last z ms (c.lists_undo.ensures.undone sizes items old new ms v h) k

pub returns-clause-valid : goal.returns-clause-valid
returns-clause-valid g c = λ w s items old new z ms v h.
    let sizes : Sizes = record { w = w; s = s; are = z } in
    c.lists_undo.ensures.valid sizes items old new ms v h
