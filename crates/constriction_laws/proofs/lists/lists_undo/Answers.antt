use Rattle.constriction_laws.proofs.Undoing.{all_undone}
use Rattle.constriction_laws.proofs.lists.lists_undo.Goals as goal

pub returns-clause-undone : goal.returns-clause-undone
returns-clause-undone g c = λ s steps old new all v h.
    (all_undone (g.C.StepsUndo.allowed s) (g.C.StepsUndo.valid s) (g.C.StepsUndo.does s) (g.C.StepsUndo.undoes s) (g.C.StepsUndo.one_undone s) steps old new all v h).0

pub returns-clause-valid : goal.returns-clause-valid
returns-clause-valid g c = λ s steps old new all v h.
    (all_undone (g.C.StepsUndo.allowed s) (g.C.StepsUndo.valid s) (g.C.StepsUndo.does s) (g.C.StepsUndo.undoes s) (g.C.StepsUndo.one_undone s) steps old new all v h).1
