use Rattle.constriction_laws.specs.chain.Undone.{Sizes}
use Rattle.constriction_laws.proofs.of_chain.ComingBack.{encodes_unique, turned_at}
use Rattle.constriction_laws.proofs.chain.lists.encodes_undo_decodes.Goals as goal

pub returns-clause-back : goal.returns-clause-back
returns-clause-back g c = λ w s P items old new sized at chain h.
    let sizes : Sizes = record { w = w; s = s; P = P; are = sized } in
    c.lists_undo.ensures.undone sizes items old new at chain h

pub returns-clause-only : goal.returns-clause-only
returns-clause-only g c = λ w s P items old new last sized at chain h k.
    let sizes : Sizes = record { w = w; s = s; P = P; are = sized } in
    encodes_unique w s P _ new last old (turned_at w s P items at) k (c.lists_undo.ensures.undone sizes items old new at chain h)

pub returns-clause-valid : goal.returns-clause-valid
returns-clause-valid g c = λ w s P items old new sized at chain h.
    let sizes : Sizes = record { w = w; s = s; P = P; are = sized } in
    c.lists_undo.ensures.valid sizes items old new at chain h
