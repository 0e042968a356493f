use Rattle.constriction_laws.specs.stack.Undone.{Sizes}
use Rattle.constriction_laws.proofs.Undoing.{all_free}
use Rattle.constriction_laws.proofs.of_stack.ComingBack.{decodes_only}
use Rattle.constriction_laws.proofs.stack.lists.decodes_undo_encodes.Goals as goal

pub returns-clause-back : goal.returns-clause-back
returns-clause-back g c = λ w s items old new z h.
    let sizes : Sizes = record { w = w; s = s; are = z } in
    c.lists_undo.ensures.undone sizes items old new (all_free items) tt h

pub returns-clause-only : goal.returns-clause-only
returns-clause-only g c = λ w s items others old new last z ms h k e.
    let sizes : Sizes = record { w = w; s = s; are = z } in
    decodes_only w s items others old new last ms e (c.lists_undo.ensures.undone sizes items old new (all_free items) tt h) k
